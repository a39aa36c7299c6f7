-- Two limits at their smallest, each row computed.
-- Assumes nothing.
use mathlib.Core.Path.{refl}
use Rattle.answer.specs.Answer.{write_answer}
use Rattle.answer.specs.Numbers.{same, all_at_most, among}
use Rattle.board_builder.specs.BoardBuilder.{in_range, numbers_in_range, numbers}
use Rattle.move_list.specs.MoveList.{list_in_range}
use Rattle.action.specs.Layout.{action_of, action_bytes}
use Rattle.actions.specs.Part.{moves_in, actions_held}
use Rattle.position.specs.Layout.{moves_from, position_of}
use Rattle.stored_position.specs.Bytes.{move_bytes, position_bytes, position_check, is_position}
use Rattle.ending.specs.Ending.{result_of}
use Rattle.game_rules.specs.Rules.{current, actions, last_made, result, first_refusal, answer}
use Rattle.game_rules.specs.Good.{call_at, history_of, next_sound, sound, is_good}
use Rattle.game_rules.specs.Calls.{log_check, call_answer, result_answer}
use Rattle.roll_text.specs.Number.{groups, behind, read_groups}
use Rattle.roll_text.specs.Roll.{largest_numbers, numbers_text, action_text, actions_text, counts_text, text_by, is_code, put_number, one_number, read_numbers}
use Rattle.roll_text.specs.Roll.{full_by, half_by, read_counters, moved_by, coded}
use Rattle.roll_text.specs.Roll.{put_action, next_action, read_actions, with_actions, with_count, with_counts, with_front, read_by}
use Rattle.roll_text.specs.Calls.{roll_answer, roll_over, judged_by, moves_by_kind, write_check}
use Rattle.longer.specs.AtSmallest.{RoomAtSmallest, RollsAtSmallest, WithinAtSmallest, LogsAtSmallest, Sizes}

pub room_at_smallest : RoomAtSmallest
room_at_smallest =
    record {
      first_offer = refl;
      second_offer = refl;
      first_move = refl;
      larger_move = refl;
      at_the_limit = refl;
      past_actions = refl;
      past_moves = refl;
      last_move_fact = refl;
      no_move_left = refl;
    }

pub rolls_at_smallest : RollsAtSmallest
unfolding write_answer all_at_most in_range numbers action_of moves_by_kind actions_held groups behind read_groups largest_numbers numbers_text action_text
    actions_text counts_text text_by is_code put_number one_number read_numbers full_by half_by read_counters moved_by coded put_action next_action
    read_actions with_actions with_count with_counts with_front read_by roll_answer judged_by write_check
rolls_at_smallest =
    record {
      at_it = refl;
      at_it_too = refl;
      one_action_more = refl;
      accepted_action = refl;
      one_move_more = refl;
      accepted_move = refl;
      two_moves = refl;
      three_actions = refl;
      no_code = refl;
      no_code_too = refl;
      hidden = refl;
      shown = refl;
      at_it_old = refl;
      one_action_more_old = refl;
      one_move_more_old = refl;
      accepted_old = refl;
      writes = refl;
      writes_too = refl;
      writes_none = refl;
      writes_longer = refl;
    }

pub within_at_smallest : WithinAtSmallest
unfolding action_of moves_in groups behind read_groups largest_numbers is_code put_number one_number read_numbers full_by half_by read_counters moved_by coded
    put_action next_action read_actions with_actions with_count with_counts with_front read_by roll_answer roll_over judged_by
within_at_smallest =
    record {
      within_both = refl;
      too_many = refl;
      no_moves = refl;
      only_offers = refl;
      one_offer = refl;
    }

pub logs_at_smallest : LogsAtSmallest
unfolding same all_at_most among in_range numbers_in_range list_in_range action_of action_bytes moves_in moves_from position_of move_bytes position_bytes
    position_check is_position result_of current actions last_made result first_refusal answer call_at history_of next_sound sound is_good log_check
    call_answer result_answer
logs_at_smallest =
    record {
      offer = refl;
      offer_too = refl;
      not_in_the_list = refl;
      not_in_the_list_too = refl;
      second = refl;
      second_made = refl;
      counted_two = refl;
      counted_two_too = refl;
      short = refl;
      short_actions = refl;
      short_positions = refl;
    }

pub sizes : Sizes
sizes = record { old_actions = refl; old_positions = refl; actions = refl; positions = refl }
