-- The lines at their smallest, each row computed.
-- Assumes nothing.
use mathlib.Core.Path.{refl}
use Rattle.answer.specs.Ascii.{ascii}
use Rattle.answer.specs.Answer.{write_answer}
use Rattle.decimal.specs.Decimal.{digits, decimal}
use Rattle.game_rules.specs.Rules.{first_refusal}
use Rattle.roll_text.specs.Number.{behind, read_groups}
use Rattle.roll_text.specs.Roll.{largest_numbers, is_code, put_number, one_number, read_numbers, full_by, half_by, read_counters, moved_by, coded}
use Rattle.roll_text.specs.Roll.{put_action, next_action, read_actions, with_actions, with_count, with_counts, with_front, read_by}
use Rattle.roll_text.specs.Calls.{roll_answer}
use Rattle.differences_text.specs.Differences.{start_numbers, start_key, if_differs, start_differences, action_numbers, action_key}
use Rattle.differences_text.specs.Differences.{action_difference, line_text, lines_text}
use Rattle.differences_text.specs.Calls.{differences, differences_check, differences_text}
use Rattle.differences_text.specs.AtRows.{LinesAtSmallest, RefusalsAtSmallest}

pub lines_at_smallest : LinesAtSmallest
unfolding ascii digits decimal behind read_groups largest_numbers is_code put_number one_number read_numbers full_by half_by read_counters moved_by coded
    put_action next_action read_actions with_actions with_count with_counts with_front read_by start_numbers start_key if_differs start_differences
    action_numbers action_key action_difference line_text lines_text differences differences_text
lines_at_smallest =
    record {
      on_e4 = refl;
      side = refl;
      white = refl;
      black = refl;
      file = refl;
      half = refl;
      full = refl;
      in_order = refl;
      counters_in_order = refl;
      action_last = refl;
      equal = refl;
      an_action = refl;
      the_first = refl;
      none_in_second = refl;
      none_in_first = refl;
    }

pub refusals_at_smallest : RefusalsAtSmallest
unfolding ascii write_answer digits decimal first_refusal behind read_groups largest_numbers is_code put_number one_number read_numbers full_by half_by
    read_counters moved_by coded put_action next_action read_actions with_actions with_count with_counts with_front read_by roll_answer start_numbers
    start_key if_differs start_differences action_numbers action_key action_difference line_text lines_text differences differences_check differences_text
refusals_at_smallest = record { first_roll_first = refl; then_the_second = refl; then_7 = refl; accepted = refl }
