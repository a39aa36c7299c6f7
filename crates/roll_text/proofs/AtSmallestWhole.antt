-- The whole rolls, each row computed.
-- Assumes nothing.
use mathlib.Core.Path.{refl}
use Rattle.answer.specs.Numbers.{all_at_most}
use Rattle.board_builder.specs.BoardBuilder.{in_range, numbers}
use Rattle.action.specs.Layout.{action_of}
use Rattle.actions.specs.Part.{actions_held}
use Rattle.roll_text.specs.Calls.{judged_by, moves_by_kind, roll_answer, roll_over, write_check}
use Rattle.roll_text.specs.Number.{behind, groups, read_groups}
use Rattle.roll_text.specs.Roll.{action_text, actions_text, coded, counts_text, full_by, half_by, is_code, largest_numbers, moved_by, next_action, numbers_text}
use Rattle.roll_text.specs.Roll.{one_number, put_action, put_number, read_actions, read_by, read_counters, read_numbers, text_by, with_actions, with_count}
use Rattle.roll_text.specs.Roll.{with_counts, with_front}
use Rattle.roll_text.specs.WholeAtSmallest.{WholeAtSmallest}

pub whole_at_smallest : WholeAtSmallest
unfolding all_at_most in_range numbers action_of actions_held moves_by_kind judged_by roll_answer roll_over write_check behind groups read_groups action_text
    actions_text coded counts_text full_by half_by is_code largest_numbers moved_by next_action numbers_text one_number put_action put_number read_actions
    read_by read_counters read_numbers text_by with_actions with_count with_counts with_front
whole_at_smallest =
    record {
      written = refl;
      written_check = refl;
      knight_written = refl;
      read = refl;
      left = refl;
      refused = refl;
      refused_left = refl;
      at_bounds = refl;
      side_over = refl;
      white_over = refl;
      black_over = refl;
      file_over = refl;
      code_3 = refl;
      code_7 = refl;
      code_9 = refl;
      code_12 = refl;
      move_over = refl;
      move_cut = refl;
      third_move = refl;
      text_127 = refl;
      text_128 = refl;
      text_16384 = refl;
      read_127 = refl;
      read_128 = refl;
      five_groups = refl;
      six_groups = refl;
    }
