-- The moves, each computed.
-- Assumes nothing.
use mathlib.Core.Path.{refl}
use Rattle.answer.specs.Ascii.{ascii}
use Rattle.answer.specs.Numbers.{all_at_most, among}
use Rattle.square.specs.Piece.{kind_of, letter_of, piece_of}
use Rattle.square.specs.Square.{pair_told, read_square}
use Rattle.castle_rights.specs.CastleRights.{letters_of, letters_text}
use Rattle.board_builder.specs.BoardBuilder.{in_range}
use Rattle.fen_text.specs.Placement.{place_all, place_byte}
use Rattle.fen_text.specs.Read.{assembled, of_tokens, read_fen, rights_of, side_of, sided}
use Rattle.fen_text.specs.Token.{joined, onto, place_after, place_where, tokens}
use Rattle.fen_text.specs.Write.{digit_text, en_passant_text, fen_text, ranks_text, rights_text, run_text, slash_text, tail_text}
use Rattle.chess_move.specs.Coordinate.{promotion_named, read_move, with_dest, with_source}
use Rattle.move_rules.specs.After.{after_answer, after_parts, castles, colour_step, corner, enemy_pawn, file_after, full_after, half_after, one_more}
use Rattle.move_rules.specs.After.{pawn_removed}
use Rattle.move_rules.specs.After.{restarts, rights_after, rights_without, rook_moved, set_down, squares_after, steps_twice, stood_before, stood_behind}
use Rattle.move_rules.specs.After.{takes_in_passing}
use Rattle.move_rules.specs.After.{two_apart}
use Rattle.key_after.specs.AtSmallest.{MovesPlayed}

pub moves_played : MovesPlayed
unfolding ascii all_at_most among kind_of letter_of piece_of pair_told read_square letters_of letters_text in_range place_all place_byte assembled of_tokens
    read_fen rights_of side_of sided joined onto place_after place_where tokens digit_text en_passant_text fen_text ranks_text rights_text run_text slash_text
    tail_text promotion_named read_move with_dest with_source after_answer after_parts castles colour_step corner enemy_pawn file_after full_after half_after
    one_more pawn_removed restarts rights_after rights_without rook_moved set_down squares_after steps_twice stood_before stood_behind takes_in_passing
    two_apart
moves_played = record {
  black_promotes = (refl, refl);
  white_king_promoted = (refl, refl);
  nothing_promoted = (refl, refl);
  castles_short = (refl, refl);
  castles_long = (refl, refl);
  other_rank = (refl, refl);
  knight_takes_none = (refl, refl);
  rook_takes_rook = (refl, refl);
  black_double = (refl, refl);
  black_beside_own = (refl, refl);
  black_beside_knight = (refl, refl);
  far_edge = (refl, refl);
  beside_h = (refl, refl);
  two_files = (refl, refl);
  five_before_six = (refl, refl);
  six = (refl, refl);
  last_move_fact = refl;
}
