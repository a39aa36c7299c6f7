-- Logs that are not good, each row computed.
-- Assumes nothing.
use mathlib.Core.Path.{refl}
use Rattle.answer.specs.Ascii.{ascii}
use Rattle.answer.specs.Numbers.{all_at_most, among, same}
use Rattle.square.specs.Piece.{kind_of, piece_of}
use Rattle.square.specs.Square.{pair_told, read_square}
use Rattle.board_builder.specs.BoardBuilder.{in_range, numbers, numbers_in_range}
use Rattle.fen_text.specs.Placement.{place_all, place_byte}
use Rattle.fen_text.specs.Read.{assembled, of_tokens, read_fen, rights_of, side_of, sided}
use Rattle.fen_text.specs.Token.{joined, onto, place_after, place_where, tokens}
use Rattle.chess_move.specs.Coordinate.{promotion_named, read_move, with_dest, with_source}
use Rattle.move_list.specs.MoveList.{list_in_range}
use Rattle.move_rules.specs.After.{after_parts, castles, colour_step, corner, enemy_pawn, file_after, full_after, half_after, one_more, pawn_removed}
use Rattle.move_rules.specs.After.{record_after}
use Rattle.move_rules.specs.After.{restarts, rights_after, rights_without, rook_moved, set_down, squares_after, steps_twice, stood_before, stood_behind}
use Rattle.move_rules.specs.After.{takes_in_passing}
use Rattle.move_rules.specs.After.{two_apart}
use Rattle.move_rules.specs.Leads.{counters_from}
use Rattle.action.specs.Layout.{action_bytes, action_of}
use Rattle.actions.specs.Part.{moves_in}
use Rattle.position.specs.Layout.{moves_from, position_of}
use Rattle.position.specs.Repeats.{equal, times}
use Rattle.stored_position.specs.Bytes.{is_position, move_bytes, position_bytes, position_check}
use Rattle.ending.specs.Ending.{offer_in, result_of}
use Rattle.claim.specs.Emptying.{irreversible, rights_differ}
use Rattle.game_rules.specs.Calls.{call_answer, log_check, result_answer}
use Rattle.game_rules.specs.Good.{action_part, call_at, history_of, is_good, next_sound, position_part, sound}
use Rattle.game_rules.specs.Rules.{actions, answer, claim_stands, current, first_refusal, last_but_one, last_made, moves, offer_stands, result, ruling}
use Rattle.log_rows.specs.Games.{moves_written}
use Rattle.log_rows.specs.NotGood.{LogsNotGood}

pub logs_not_good : LogsNotGood
unfolding ascii all_at_most among same kind_of piece_of pair_told read_square in_range numbers numbers_in_range place_all place_byte assembled of_tokens
    read_fen rights_of side_of sided joined onto place_after place_where tokens promotion_named read_move with_dest with_source list_in_range after_parts
    castles colour_step corner enemy_pawn file_after full_after half_after one_more pawn_removed record_after restarts rights_after rights_without rook_moved
    set_down squares_after steps_twice stood_before stood_behind takes_in_passing two_apart counters_from action_bytes action_of moves_in moves_from
    position_of equal times is_position move_bytes position_bytes position_check offer_in result_of irreversible rights_differ call_answer log_check
    result_answer action_part call_at history_of is_good next_sound position_part sound actions answer claim_stands current first_refusal last_but_one
    last_made moves offer_stands result ruling moves_written
logs_not_good = record {
  good = refl;
  rest_of_action = refl;
  rest_of_position = refl;
  half_not_counted = refl;
  full_counted = refl;
  accepts_nothing = refl;
  claims_nothing = refl;
  no_action = refl;
  accepted_draw = refl;
  declared_draw = refl;
  short_first = refl;
  no_room = refl;
  room = refl;
  no_action_more = refl;
  last_action = refl;
}
