-- Rolls by the host's calls, each row computed.
-- Assumes nothing.
use mathlib.Core.Path.{refl}
use Rattle.answer.specs.Answer.{write_answer, write_bytes}
use Rattle.answer.specs.Numbers.{all_at_most}
use Rattle.board_builder.specs.BoardBuilder.{in_range, numbers}
use Rattle.action.specs.Layout.{action_of}
use Rattle.actions.specs.Part.{actions_held}
use Rattle.roll_text.specs.Calls.{acts_number, acts_over, front_number, is_acts, judged_by, moves_by_kind, roll_answer, roll_over, write_check}
use Rattle.roll_text.specs.Number.{behind, groups, read_groups}
use Rattle.roll_text.specs.Promises.{formed}
use Rattle.roll_text.specs.Roll.{action_text, actions_text, coded, counts_text, full_by, half_by, is_code, largest_numbers, moved_by, next_action, numbers_text}
use Rattle.roll_text.specs.Roll.{one_number, put_action, put_number, read_actions, read_by, read_counters, read_numbers, start_fits, text_by, with_actions}
use Rattle.roll_text.specs.Roll.{with_count}
use Rattle.roll_text.specs.Roll.{with_counts, with_front, within_bounds}
use Rattle.roll_reader.specs.Checked.{checked}
use Rattle.log_rows.specs.Rolls.{WrittenByCalls, ReadByCalls, StartsRead, StagesRead, LooksAtRolls}

pub written_by_calls : WrittenByCalls
unfolding write_answer write_bytes all_at_most in_range numbers action_of actions_held acts_number acts_over front_number is_acts judged_by moves_by_kind
    roll_answer roll_over write_check behind groups read_groups formed action_text actions_text coded counts_text full_by half_by is_code largest_numbers
    moved_by next_action numbers_text one_number put_action put_number read_actions read_by read_counters read_numbers start_fits text_by with_actions
    with_count with_counts with_front within_bounds checked
written_by_calls = record {
  answer = refl;
  room = refl;
  short = refl;
  short_room = refl;
  bytes = refl;
  by_its_room = refl;
}

pub read_by_calls : ReadByCalls
unfolding write_answer write_bytes all_at_most in_range numbers action_of actions_held acts_number acts_over front_number is_acts judged_by moves_by_kind
    roll_answer roll_over write_check behind groups read_groups formed action_text actions_text coded counts_text full_by half_by is_code largest_numbers
    moved_by next_action numbers_text one_number put_action put_number read_actions read_by read_counters read_numbers start_fits text_by with_actions
    with_count with_counts with_front within_bounds checked
read_by_calls = record {
  answer = refl;
  part = refl;
  short = refl;
  short_part = refl;
  old_answer = refl;
  old_part = refl;
  made_new = refl;
  code_0 = refl;
  code_1 = refl;
}

pub starts_read : StartsRead
unfolding write_answer write_bytes all_at_most in_range numbers action_of actions_held acts_number acts_over front_number is_acts judged_by moves_by_kind
    roll_answer roll_over write_check behind groups read_groups formed action_text actions_text coded counts_text full_by half_by is_code largest_numbers
    moved_by next_action numbers_text one_number put_action put_number read_actions read_by read_counters read_numbers start_fits text_by with_actions
    with_count with_counts with_front within_bounds checked
starts_read = record {
  largest = refl;
  least = refl;
  clock_over = refl;
  number_over = refl;
  number_zero = refl;
  no_numbers = refl;
  at_bounds = refl;
  first_over = refl;
  second_over = refl;
  too_few = refl;
  too_many = refl;
  counted = refl;
  old_form = refl;
  old_clock = refl;
  old_number = refl;
  old_zero = refl;
}

pub stages_read : StagesRead
unfolding write_answer write_bytes all_at_most in_range numbers action_of actions_held acts_number acts_over front_number is_acts judged_by moves_by_kind
    roll_answer roll_over write_check behind groups read_groups formed action_text actions_text coded counts_text full_by half_by is_code largest_numbers
    moved_by next_action numbers_text one_number put_action put_number read_actions read_by read_counters read_numbers start_fits text_by with_actions
    with_count with_counts with_front within_bounds checked
stages_read = record {
  front_stopped = refl;
  front_passed = refl;
  acts_halted = refl;
  acts_passed = refl;
  no_acts = refl;
  some_acts = refl;
  over = refl;
  left_alone = refl;
  fields_of = refl;
}

pub looks_at_rolls : LooksAtRolls
unfolding write_answer write_bytes all_at_most in_range numbers action_of actions_held acts_number acts_over front_number is_acts judged_by moves_by_kind
    roll_answer roll_over write_check behind groups read_groups formed action_text actions_text coded counts_text full_by half_by is_code largest_numbers
    moved_by next_action numbers_text one_number put_action put_number read_actions read_by read_counters read_numbers start_fits text_by with_actions
    with_count with_counts with_front within_bounds checked
looks_at_rolls = record {
  looked_at = refl;
  refused = refl;
}
