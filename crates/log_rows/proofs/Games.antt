-- The games, each row computed.
-- Assumes nothing.
use mathlib.Core.Path.{refl}
use Rattle.answer.specs.Ascii.{ascii}
use Rattle.answer.specs.Numbers.{among}
use Rattle.square.specs.Piece.{kind_of, piece_of}
use Rattle.square.specs.Square.{pair_told, read_square}
use Rattle.board_builder.specs.BoardBuilder.{numbers}
use Rattle.fen_text.specs.Placement.{place_all, place_byte}
use Rattle.fen_text.specs.Read.{assembled, of_tokens, read_fen, rights_of, side_of, sided}
use Rattle.fen_text.specs.Token.{joined, onto, place_after, place_where, tokens}
use Rattle.chess_move.specs.Coordinate.{promotion_named, read_move, with_dest, with_source}
use Rattle.action.specs.Layout.{action_bytes}
use Rattle.stored_position.specs.Bytes.{move_bytes, position_bytes}
use Rattle.ending.specs.Ending.{offer_in, result_of}
use Rattle.claim.specs.Emptying.{irreversible, rights_differ}
use Rattle.game_rules.specs.Calls.{actions_after, counts_after, positions_after, positions_begun}
use Rattle.game_rules.specs.Rules.{current, last_but_one, last_made, offer_stands, result, ruling}
use Rattle.laws.specs.Laws.{laws_count, moves_made, since_last}
use Rattle.log_rows.specs.Games.{moves_written}
use Rattle.log_rows.specs.Games.{ResultsByNumber, OffersAtSmallest, CountedByOne, LeftByCalls}

pub results_by_number : ResultsByNumber
unfolding ascii among kind_of piece_of pair_told read_square numbers place_all place_byte assembled of_tokens read_fen rights_of side_of sided joined onto
    place_after place_where tokens promotion_named read_move with_dest with_source action_bytes move_bytes position_bytes offer_in result_of irreversible
    rights_differ actions_after counts_after positions_after positions_begun current last_but_one last_made offer_stands result ruling laws_count moves_made
    since_last moves_written
results_by_number = record {
  goes_on = refl;
  white_checkmates = refl;
  white_resigns = refl;
  black_checkmates = refl;
  black_resigns = refl;
  stalemates = refl;
  white_stalemates_too = refl;
  draw_accepted = refl;
  draw_declared = refl;
  offer_goes_on = refl;
  move_goes_on = refl;
}

pub offers_at_smallest : OffersAtSmallest
unfolding ascii among kind_of piece_of pair_told read_square numbers place_all place_byte assembled of_tokens read_fen rights_of side_of sided joined onto
    place_after place_where tokens promotion_named read_move with_dest with_source action_bytes move_bytes position_bytes offer_in result_of irreversible
    rights_differ actions_after counts_after positions_after positions_begun current last_but_one last_made offer_stands result ruling laws_count moves_made
    since_last moves_written
offers_at_smallest = record {
  none = refl;
  by_white = refl;
  by_black = refl;
  offered_and_moved = refl;
  not_answered = refl;
  only_offers = refl;
  moved_last = refl;
  accepted_last = refl;
  declared_last = refl;
  resigned_last = refl;
  accepted_before = refl;
  declared_before = refl;
  resigned_before = refl;
  lapsed = refl;
}

pub counted_by_one : CountedByOne
unfolding ascii among kind_of piece_of pair_told read_square numbers place_all place_byte assembled of_tokens read_fen rights_of side_of sided joined onto
    place_after place_where tokens promotion_named read_move with_dest with_source action_bytes move_bytes position_bytes offer_in result_of irreversible
    rights_differ actions_after counts_after positions_after positions_begun current last_but_one last_made offer_stands result ruling laws_count moves_made
    since_last moves_written
counted_by_one = record {
  knight = record { count_is = refl; laws_is = refl; run_is = refl };
  white_pawn = record { count_is = refl; laws_is = refl; run_is = refl };
  black_pawn = record { count_is = refl; laws_is = refl; run_is = refl };
  takes_pawn = record { count_is = refl; laws_is = refl; run_is = refl };
  takes_king = record { count_is = refl; laws_is = refl; run_is = refl };
  white_right = record { count_is = refl; laws_is = refl; run_is = refl };
  black_right = record { count_is = refl; laws_is = refl; run_is = refl };
}

pub left_by_calls : LeftByCalls
unfolding ascii among kind_of piece_of pair_told read_square numbers place_all place_byte assembled of_tokens read_fen rights_of side_of sided joined onto
    place_after place_where tokens promotion_named read_move with_dest with_source action_bytes move_bytes position_bytes offer_in result_of irreversible
    rights_differ actions_after counts_after positions_after positions_begun current last_but_one last_made offer_stands result ruling laws_count moves_made
    since_last moves_written
left_by_calls = record {
  move_counts = refl;
  other_counts = refl;
  offer_counts = refl;
  accept_counts = refl;
  resign_counts = refl;
  refused_counts = refl;
  move_bytes = refl;
  offer_bytes = refl;
  accept_bytes = refl;
  declare_bytes = refl;
  resign_bytes = refl;
  refused_bytes = refl;
  move_position = refl;
  refused_position = refl;
  begun_position = refl;
  refused_start = refl;
  actions_part = refl;
  positions_part = refl;
}
