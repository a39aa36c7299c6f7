-- Rights compared, each row computed.
-- Assumes nothing.
use mathlib.Core.Path.{refl}
use Rattle.answer.specs.Ascii.{ascii}
use Rattle.answer.specs.Numbers.{among}
use Rattle.square.specs.Piece.{kind_of, piece_of}
use Rattle.square.specs.Square.{pair_told, read_square}
use Rattle.board_builder.specs.BoardBuilder.{numbers}
use Rattle.fen_text.specs.Placement.{place_all, place_byte}
use Rattle.fen_text.specs.Read.{assembled, of_tokens, read_fen, rights_of, side_of, sided}
use Rattle.fen_text.specs.Token.{joined, onto, place_after, place_where, tokens}
use Rattle.chess_move.specs.Coordinate.{promotion_named, read_move, with_dest, with_source}
use Rattle.claim.specs.Emptying.{irreversible, rights_differ}
use Rattle.game_rules.specs.Rules.{current}
use Rattle.laws.specs.Laws.{moves_made, rights_kept}
use Rattle.log_rows.specs.Games.{moves_written}
use Rattle.log_rows.specs.Rights.{RightsCompared}

pub rights_compared : RightsCompared
unfolding ascii among kind_of piece_of pair_told read_square numbers place_all place_byte assembled of_tokens read_fen rights_of side_of sided joined onto
    place_after place_where tokens promotion_named read_move with_dest with_source irreversible rights_differ current moves_made rights_kept moves_written
rights_compared = record {
  alike = refl;
  white_gains = refl;
  white_loses = refl;
  black_gains = refl;
  black_loses = refl;
  lost = refl;
  kept = refl;
}
