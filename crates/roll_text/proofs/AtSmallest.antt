-- Numbers and refusals of a roll at their smallest, each row computed.
-- Assumes nothing.
use mathlib.Core.Path.{refl}
use Rattle.answer.specs.Answer.{write_answer}
use Rattle.answer.specs.Numbers.{all_at_most}
use Rattle.board_builder.specs.BoardBuilder.{in_range, numbers}
use Rattle.action.specs.Layout.{action_of}
use Rattle.actions.specs.Part.{actions_held}
use Rattle.roll_text.specs.Number.{groups, behind, read_groups}
use Rattle.roll_text.specs.Roll.{largest_numbers, numbers_text, counts_text, action_text, actions_text, text_by, is_code, put_number, one_number, read_numbers}
use Rattle.roll_text.specs.Roll.{full_by, half_by, read_counters, moved_by, coded}
use Rattle.roll_text.specs.Roll.{put_action, next_action, read_actions, with_actions, with_count, with_counts, with_front, read_by}
use Rattle.roll_text.specs.Calls.{roll_answer, judged_by, moves_by_kind, write_check}
use Rattle.roll_text.specs.AtSmallest.{NumbersAtSmallest, ReadingAtSmallest, OldReadingAtSmallest, WritingAtSmallest}

pub numbers_at_smallest : NumbersAtSmallest
unfolding groups behind read_groups
numbers_at_smallest =
    record { one_group = refl; lowest_first = refl; reads = refl; cut_short = refl; needless = refl; six_groups = refl; five_groups = refl }

pub reading_at_smallest : ReadingAtSmallest
unfolding numbers behind read_groups largest_numbers is_code put_number one_number read_numbers moved_by coded put_action next_action read_actions
    with_actions with_count with_counts with_front full_by half_by read_counters read_by roll_answer judged_by
reading_at_smallest =
    record {
      gives_16 = refl;
      gives_5 = refl;
      shortest_before_5 = refl;
      clock_most = refl;
      clock_gives_5 = refl;
      clock_shortest_before_5 = refl;
      move_number_zero = refl;
      move_number_most = refl;
      move_number_gives_5 = refl;
      count_gives_13 = refl;
      shortest_before_13 = refl;
      move_gives_13 = refl;
      code_gives_17 = refl;
      too_short_fact = refl;
      too_long = refl;
      accepted = refl;
      refused = refl;
      five_groups_give_13 = refl;
      six_groups_give_17 = refl;
      five_groups_give_5 = refl;
      largest_move = refl;
      over_move_gives_17 = refl;
      no_move_gives_17 = refl;
    }

pub old_reading_at_smallest : OldReadingAtSmallest
unfolding numbers behind read_groups largest_numbers is_code put_number one_number read_numbers moved_by coded put_action next_action read_actions
    with_actions with_count with_counts with_front full_by half_by read_counters read_by roll_answer judged_by
old_reading_at_smallest =
    record {
      accepted = refl;
      refused = refl;
      empty_is_not_new = refl;
      is_not_new = refl;
      move_for_count = refl;
      new_is_not_old = refl;
      begins = refl;
      counted = refl;
      both_old = refl;
      both_new = refl;
    }

pub writing_at_smallest : WritingAtSmallest
unfolding write_answer all_at_most in_range numbers action_of moves_by_kind actions_held groups behind read_groups largest_numbers numbers_text counts_text
    action_text actions_text text_by is_code put_number one_number read_numbers coded put_action next_action read_actions with_actions with_count with_counts
    with_front read_counters read_by roll_answer judged_by write_check
writing_at_smallest =
    record {
      gives_16 = refl;
      gives_5 = refl;
      clock_gives_5 = refl;
      move_number_gives_5 = refl;
      count_gives_13 = refl;
      move_gives_13 = refl;
      over_move_gives_13 = refl;
      coloured_move_gives_13 = refl;
      last_move_gives_13 = refl;
      other_ones_give_17 = refl;
      gives_17 = refl;
      gives_7 = refl;
      accepted = refl;
      counters_behind = refl;
      written_anew = refl;
      counters_two_groups = refl;
      counters_gives_7 = refl;
    }
