-- Rolls in numbers, each row computed.
-- Assumes nothing.
use mathlib.Core.Path.{refl}
use Rattle.board_builder.specs.BoardBuilder.{numbers}
use Rattle.roll_text.specs.Calls.{judged_by, roll_answer}
use Rattle.roll_text.specs.Number.{behind, groups, reach, read_groups}
use Rattle.roll_text.specs.Roll.{action_text, coded, full_by, half_by, is_code, largest_numbers, moved_by, next_action, one_number, put_action, put_number}
use Rattle.roll_text.specs.Roll.{read_actions}
use Rattle.roll_text.specs.Roll.{read_by, read_counters, read_numbers, with_actions, with_count, with_counts, with_front}
use Rattle.log_rows.specs.RollRows.{RollsInNumbers}

pub rolls_in_numbers : RollsInNumbers
unfolding numbers judged_by roll_answer behind groups reach read_groups action_text coded full_by half_by is_code largest_numbers moved_by next_action
    one_number put_action put_number read_actions read_by read_counters read_numbers with_actions with_count with_counts with_front
rolls_in_numbers = record {
  one_group = refl;
  three_groups_lem = refl;
  no_kind = refl;
  third_of_six = refl;
  two_of_six = refl;
  old = refl;
}
