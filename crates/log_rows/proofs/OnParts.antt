-- What is read off a log's two parts, each row computed.
-- Assumes nothing.
use mathlib.Core.Path.{refl}
use Rattle.answer.specs.Ascii.{ascii}
use Rattle.answer.specs.Numbers.{all_at_most, among, same}
use Rattle.square.specs.Piece.{kind_of, piece_of}
use Rattle.square.specs.Square.{pair_told, read_square}
use Rattle.board_builder.specs.BoardBuilder.{in_range, numbers, numbers_in_range}
use Rattle.fen_text.specs.Placement.{place_all, place_byte}
use Rattle.fen_text.specs.Read.{assembled, of_tokens, read_fen, rights_of, side_of, sided}
use Rattle.fen_text.specs.Token.{joined, onto, place_after, place_where, tokens}
use Rattle.chess_move.specs.Coordinate.{promotion_named, read_move, with_dest, with_source}
use Rattle.move_list.specs.MoveList.{list_in_range}
use Rattle.move_rules.specs.After.{after_parts, castles, colour_step, corner, enemy_pawn, file_after, full_after, half_after, one_more, pawn_removed}
use Rattle.move_rules.specs.After.{record_after}
use Rattle.move_rules.specs.After.{restarts, rights_after, rights_without, rook_moved, set_down, squares_after, steps_twice, stood_before, stood_behind}
use Rattle.move_rules.specs.After.{takes_in_passing}
use Rattle.move_rules.specs.After.{two_apart}
use Rattle.move_rules.specs.Leads.{counters_from}
use Rattle.action.specs.Layout.{action_bytes, action_of}
use Rattle.actions.specs.Part.{last_action, moves_in}
use Rattle.position.specs.Layout.{moves_from, position_of, positions_from}
use Rattle.position.specs.Places.{places_of}
use Rattle.position.specs.Repeats.{equal, equals_two_earlier, times}
use Rattle.stored_position.specs.Bytes.{is_position, move_bytes, position_bytes, position_check}
use Rattle.ending.specs.Ending.{offer_in, result_of}
use Rattle.claim.specs.Claim.{claim_at, claim_in, run_after, run_at}
use Rattle.claim.specs.Emptying.{irreversible, rights_differ}
use Rattle.game_rules.specs.Calls.{actions_after, call_answer, counts_after, log_check, positions_after, positions_begun, result_answer, start_answer}
use Rattle.game_rules.specs.Good.{action_part, call_at, history_of, is_good, next_sound, position_part, sound}
use Rattle.game_rules.specs.Promises.{called, played, started}
use Rattle.game_rules.specs.Rules.{actions, answer, claim_stands, current, first_refusal, last_but_one, last_made, moves, offer_stands, result, ruling}
use Rattle.laws.specs.Clock.{clock_from, full_from, stopped_at}
use Rattle.laws.specs.Laws.{laws_count, moves_made, rights_kept, since_last}
use Rattle.laws.specs.Ruling.{equals_at, ruled_on, ruling_answer}
use Rattle.log_rows.specs.Games.{moves_written}
use Rattle.log_rows.specs.OnParts.{ReadOffParts, RunsRead, ClaimsRead, ClocksRead, LeftOnParts}

pub read_off_parts : ReadOffParts
unfolding ascii all_at_most among same kind_of piece_of pair_told read_square in_range numbers numbers_in_range place_all place_byte assembled of_tokens
    read_fen rights_of side_of sided joined onto place_after place_where tokens promotion_named read_move with_dest with_source list_in_range after_parts
    castles colour_step corner enemy_pawn file_after full_after half_after one_more pawn_removed record_after restarts rights_after rights_without rook_moved
    set_down squares_after steps_twice stood_before stood_behind takes_in_passing two_apart counters_from action_bytes action_of last_action moves_in
    moves_from position_of positions_from places_of equal equals_two_earlier times is_position move_bytes position_bytes position_check offer_in result_of
    claim_at claim_in run_after run_at irreversible rights_differ actions_after call_answer counts_after log_check positions_after positions_begun
    result_answer start_answer action_part call_at history_of is_good next_sound position_part sound called played started actions answer claim_stands current
    first_refusal last_but_one last_made moves offer_stands result ruling clock_from full_from stopped_at laws_count moves_made rights_kept since_last
    equals_at ruled_on ruling_answer moves_written
read_off_parts = record {
  goes_on = refl;
  resigned = refl;
  stalemated = refl;
  mated = refl;
  offered = refl;
  offered_before = refl;
  offered_by_white = refl;
  offered_by_other = refl;
  none_offered = refl;
  lapsed = refl;
  one_move_more = refl;
  other_count = refl;
  other_move_count = refl;
}

pub runs_read : RunsRead
unfolding ascii all_at_most among same kind_of piece_of pair_told read_square in_range numbers numbers_in_range place_all place_byte assembled of_tokens
    read_fen rights_of side_of sided joined onto place_after place_where tokens promotion_named read_move with_dest with_source list_in_range after_parts
    castles colour_step corner enemy_pawn file_after full_after half_after one_more pawn_removed record_after restarts rights_after rights_without rook_moved
    set_down squares_after steps_twice stood_before stood_behind takes_in_passing two_apart counters_from action_bytes action_of last_action moves_in
    moves_from position_of positions_from places_of equal equals_two_earlier times is_position move_bytes position_bytes position_check offer_in result_of
    claim_at claim_in run_after run_at irreversible rights_differ actions_after call_answer counts_after log_check positions_after positions_begun
    result_answer start_answer action_part call_at history_of is_good next_sound position_part sound called played started actions answer claim_stands current
    first_refusal last_but_one last_made moves offer_stands result ruling clock_from full_from stopped_at laws_count moves_made rights_kept since_last
    equals_at ruled_on ruling_answer moves_written
runs_read = record {
  from_start = refl;
  offer_leaves_it = refl;
  by_a_pawn = refl;
  goes_on = refl;
  by_a_right = refl;
  only_an_offer = refl;
  last_number = refl;
  offer_behind = refl;
  quiet = refl;
  from_nothing = refl;
  pawn = refl;
  capture = refl;
  white_lost = refl;
  black_lost = refl;
  white_gained = refl;
  black_gained = refl;
}

pub claims_read : ClaimsRead
unfolding ascii all_at_most among same kind_of piece_of pair_told read_square in_range numbers numbers_in_range place_all place_byte assembled of_tokens
    read_fen rights_of side_of sided joined onto place_after place_where tokens promotion_named read_move with_dest with_source list_in_range after_parts
    castles colour_step corner enemy_pawn file_after full_after half_after one_more pawn_removed record_after restarts rights_after rights_without rook_moved
    set_down squares_after steps_twice stood_before stood_behind takes_in_passing two_apart counters_from action_bytes action_of last_action moves_in
    moves_from position_of positions_from places_of equal equals_two_earlier times is_position move_bytes position_bytes position_check offer_in result_of
    claim_at claim_in run_after run_at irreversible rights_differ actions_after call_answer counts_after log_check positions_after positions_begun
    result_answer start_answer action_part call_at history_of is_good next_sound position_part sound called played started actions answer claim_stands current
    first_refusal last_but_one last_made moves offer_stands result ruling clock_from full_from stopped_at laws_count moves_made rights_kept since_last
    equals_at ruled_on ruling_answer moves_written
claims_read = record {
  since_5 = refl;
  since_later = refl;
  third_time = refl;
  second_time = refl;
  just_long_enough = refl;
  one_byte_short = refl;
  equal_before = refl;
  equal_in_it = refl;
  one_in_it = refl;
  count_100 = refl;
  count_99 = refl;
}

pub clocks_read : ClocksRead
unfolding ascii all_at_most among same kind_of piece_of pair_told read_square in_range numbers numbers_in_range place_all place_byte assembled of_tokens
    read_fen rights_of side_of sided joined onto place_after place_where tokens promotion_named read_move with_dest with_source list_in_range after_parts
    castles colour_step corner enemy_pawn file_after full_after half_after one_more pawn_removed record_after restarts rights_after rights_without rook_moved
    set_down squares_after steps_twice stood_before stood_behind takes_in_passing two_apart counters_from action_bytes action_of last_action moves_in
    moves_from position_of positions_from places_of equal equals_two_earlier times is_position move_bytes position_bytes position_check offer_in result_of
    claim_at claim_in run_after run_at irreversible rights_differ actions_after call_answer counts_after log_check positions_after positions_begun
    result_answer start_answer action_part call_at history_of is_good next_sound position_part sound called played started actions answer claim_stands current
    first_refusal last_but_one last_made moves offer_stands result ruling clock_from full_from stopped_at laws_count moves_made rights_kept since_last
    equals_at ruled_on ruling_answer moves_written
clocks_read = record {
  below = refl;
  at_it = refl;
  above = refl;
  all_counted = refl;
  begun_again = refl;
  more_than_made = refl;
  clock_stops = refl;
  white_began = refl;
  black_began = refl;
  black_began_even = refl;
  number_stops = refl;
  kept = refl;
  lost = refl;
  lost_earlier = refl;
  lost_before = refl;
}

pub left_on_parts : LeftOnParts
unfolding ascii all_at_most among same kind_of piece_of pair_told read_square in_range numbers numbers_in_range place_all place_byte assembled of_tokens
    read_fen rights_of side_of sided joined onto place_after place_where tokens promotion_named read_move with_dest with_source list_in_range after_parts
    castles colour_step corner enemy_pawn file_after full_after half_after one_more pawn_removed record_after restarts rights_after rights_without rook_moved
    set_down squares_after steps_twice stood_before stood_behind takes_in_passing two_apart counters_from action_bytes action_of last_action moves_in
    moves_from position_of positions_from places_of equal equals_two_earlier times is_position move_bytes position_bytes position_check offer_in result_of
    claim_at claim_in run_after run_at irreversible rights_differ actions_after call_answer counts_after log_check positions_after positions_begun
    result_answer start_answer action_part call_at history_of is_good next_sound position_part sound called played started actions answer claim_stands current
    first_refusal last_but_one last_made moves offer_stands result ruling clock_from full_from stopped_at laws_count moves_made rights_kept since_last
    equals_at ruled_on ruling_answer moves_written
left_on_parts = record {
  begun_left = refl;
  short_actions = refl;
  short_positions = refl;
  all_played = refl;
  none_played = refl;
  none_laid = refl;
  none_played_on = refl;
  none_laid_on = refl;
  two_moves = refl;
  counted_move = refl;
  counted_other = refl;
  yes_first = refl;
  yes_later = refl;
  yes_refused = refl;
}
