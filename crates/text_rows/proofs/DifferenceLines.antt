-- DifferenceLines: each row computed.
-- Assumes nothing.
use mathlib.Core.Path.{refl}
use Rattle.answer.specs.Answer.{write_answer, write_bytes}
use Rattle.answer.specs.Ascii.{ascii}
use Rattle.decimal.specs.Decimal.{decimal, digits}
use Rattle.board_builder.specs.BoardBuilder.{numbers}
use Rattle.game_rules.specs.Rules.{first_refusal}
use Rattle.roll_text.specs.Calls.{judged_by, roll_answer, roll_over}
use Rattle.roll_text.specs.Number.{behind, read_groups}
use Rattle.roll_text.specs.Roll.{coded, full_by, half_by, is_code, largest_numbers, moved_by, next_action, one_number, put_action, put_number, read_actions}
use Rattle.roll_text.specs.Roll.{read_by}
use Rattle.roll_text.specs.Roll.{read_counters, read_numbers, with_actions, with_count, with_counts, with_front}
use Rattle.differences_text.specs.Calls.{differences, differences_check, differences_text}
use Rattle.differences_text.specs.Differences.{action_difference, action_key, action_numbers, if_differs, line_text, lines_text, start_differences, start_key}
use Rattle.differences_text.specs.Differences.{start_numbers}
use Rattle.differences_text.specs.Promises.{rising}
use Rattle.text_rows.specs.DifferenceLines.{LinesInNumbers, CallsThatTell}

pub lines_in_numbers : LinesInNumbers
unfolding write_answer write_bytes ascii decimal digits numbers first_refusal judged_by roll_answer roll_over behind read_groups coded full_by half_by is_code
    largest_numbers moved_by next_action one_number put_action put_number read_actions read_by read_counters read_numbers with_actions with_count with_counts
    with_front differences differences_check differences_text action_difference action_key action_numbers if_differs line_text lines_text start_differences
    start_key start_numbers rising
lines_in_numbers = record {
  line = refl;
  other_way = refl;
  text = refl;
  larger = refl;
  smaller = refl;
  equal = refl;
  so_many = refl;
  keys = refl;
  of_start = refl;
  not_there = refl;
  in_order = refl;
  twice = refl;
  under = refl;
  most = refl;
  together = λ l. refl;
}

pub calls_that_tell : CallsThatTell
unfolding write_answer write_bytes ascii decimal digits numbers first_refusal judged_by roll_answer roll_over behind read_groups coded full_by half_by is_code
    largest_numbers moved_by next_action one_number put_action put_number read_actions read_by read_counters read_numbers with_actions with_count with_counts
    with_front differences differences_check differences_text action_difference action_key action_numbers if_differs line_text lines_text start_differences
    start_key start_numbers rising
calls_that_tell = record {
  written = refl;
  room = refl;
  into_two = refl;
  answer = refl;
  too_short_fact = refl;
  first_roll_first = refl;
  second_roll = refl;
  read = refl;
  cut_short = refl;
}
