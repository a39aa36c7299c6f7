-- The order of the checks of a log call, each row computed.
-- Assumes nothing.
use mathlib.Core.Path.{refl}
use Rattle.answer.specs.Numbers.{same, all_at_most, among}
use Rattle.square.specs.Piece.{kind_of}
use Rattle.board_builder.specs.BoardBuilder.{numbers, in_range, numbers_in_range}
use Rattle.move_rules.specs.After.{castles, rook_moved, takes_in_passing, pawn_removed, set_down, squares_after, rights_without, rights_after}
use Rattle.move_rules.specs.After.{two_apart, steps_twice, file_after, after_parts, record_after}
use Rattle.move_rules.specs.After.{restarts, one_more, half_after, full_after}
use Rattle.move_rules.specs.Leads.{counters_from}
use Rattle.move_list.specs.MoveList.{list_in_range}
use Rattle.action.specs.Layout.{action_of, action_bytes}
use Rattle.actions.specs.Part.{moves_in}
use Rattle.position.specs.Layout.{moves_from, position_of}
use Rattle.position.specs.Repeats.{times}
use Rattle.stored_position.specs.Bytes.{move_bytes, position_bytes, position_check, is_position}
use Rattle.ending.specs.Ending.{result_of, offer_in}
use Rattle.game_rules.specs.Rules.{current, actions, moves, last_made, last_but_one, result, offer_stands, ruling, claim_stands, first_refusal, answer}
use Rattle.game_rules.specs.Good.{call_at, history_of, next_sound, sound, is_good}
use Rattle.game_rules.specs.Calls.{log_check, call_answer, start_answer}
use Rattle.claim.specs.Claim.{claim_in}
use Rattle.position.specs.Repeats.{equals_two_earlier}
use Rattle.game_rules.specs.CallOrder.{ChecksInOrder, CountersInOrder}

pub checks_in_order : ChecksInOrder
unfolding same all_at_most among kind_of numbers in_range numbers_in_range castles rook_moved takes_in_passing pawn_removed set_down squares_after
    rights_without rights_after two_apart steps_twice file_after after_parts record_after restarts one_more half_after full_after counters_from list_in_range
    moves_in moves_from position_of times move_bytes position_bytes position_check is_position result_of offer_in current actions last_made last_but_one
    result offer_stands ruling claim_stands first_refusal answer history_of sound is_good log_check call_answer start_answer claim_in equals_two_earlier
checks_in_order = record {
  gives_16 = refl;
  gives_9 = refl;
  gives_10 = refl;
  gives_11 = refl;
  gives_5 = refl;
  gives_6 = refl;
  gives_12 = refl;
  gives_24 = refl;
  half_gives_24 = refl;
  full_gives_24 = refl;
  gives_13 = refl;
  offer_gives_5 = refl;
  resignation_gives_5 = refl;
  gives_14 = refl;
  gives_15 = refl;
  start_16 = refl;
  start_5 = refl;
  start_6 = refl;
  white_mated = refl;
  black_mated = refl;
  stale = refl;
  white_resigned = refl;
  black_resigned = refl;
  accepted_draw = refl;
  declared_draw = refl;
  offer_before = refl;
  offer_own = refl;
  hundred = refl;
  ninety_nine = refl;
}

pub counters_in_order : CountersInOrder
unfolding same all_at_most among kind_of numbers in_range numbers_in_range castles rook_moved takes_in_passing pawn_removed set_down squares_after
    rights_without rights_after two_apart steps_twice file_after after_parts record_after restarts one_more half_after full_after counters_from list_in_range
    action_of action_bytes moves_in moves_from position_of move_bytes position_bytes position_check is_position result_of current actions moves last_made
    result first_refusal answer call_at history_of next_sound sound is_good log_check call_answer start_answer
counters_in_order = record {
  largest_start = refl;
  clock_gives_5 = refl;
  number_gives_5 = refl;
  numbers_most_gives_5 = refl;
  next_clock_gives_5 = refl;
  next_number_gives_5 = refl;
  stored_start = refl;
  stored_clock_gives_9 = refl;
  stored_number_gives_9 = refl;
  counted = refl;
  half_gives_9 = refl;
  full_gives_9 = refl;
  old_part_gives_16 = refl;
}
