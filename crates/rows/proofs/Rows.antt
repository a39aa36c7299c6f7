-- The sixteen rows, each computed.
-- Assumes nothing.
use mathlib.Core.Path.{refl}
use Rattle.answer.specs.Answer.{write_answer, write_bytes}
use Rattle.answer.specs.Ascii.{ascii}
use Rattle.answer.specs.Numbers.{all_at_most, same, among}
use Rattle.square.specs.Piece.{kind_of, piece_of, letter_of}
use Rattle.board_builder.specs.BoardBuilder.{in_range}
use Rattle.move_list.specs.MoveList.{list_in_range, count, first_of}
use Rattle.san_text.specs.Place.{place_from, square_at}
use Rattle.san_text.specs.Text.{promotion_kind, piece_kind, is_check, after, piece_or, read_takes, read_rank, read_file}
use Rattle.san_text.specs.Text.{read_piece, read_end, read_promotion, read_dest, read_text}
use Rattle.san_text.specs.Resolve.{agrees, fits, capture_test, sole_that, castling_move, castle}
use Rattle.san_text.specs.Form.{castled, resolved, read_answer}
use Rattle.san_text.specs.Name.{optional, promotion_letter, piece_letter, changes_files, takes_of, head_of, candidates, names}
use Rattle.san_text.specs.Name.{castling_name, first_name, king_first, name_of, name_text, name_check}
use Rattle.san_text.specs.Paper.{mark_of, end_of, san_text}
use Rattle.square.specs.Square.{read_square, pair_told}
use Rattle.castle_rights.specs.CastleRights.{letters_of, letters_text}
use Rattle.chess_move.specs.Coordinate.{promotion_named, with_dest, with_source, read_move}
use Rattle.fen_text.specs.Token.{onto, joined, tokens, place_after, place_where}
use Rattle.fen_text.specs.Placement.{place_byte, place_all}
use Rattle.fen_text.specs.Read.{side_of, rights_of, sided, assembled, of_tokens, read_fen}
use Rattle.fen_text.specs.Write.{digit_text, run_text, slash_text, ranks_text, rights_text, en_passant_text, tail_text, fen_text}
use Rattle.rows.specs.Rows.{SixteenRows}

pub sixteen_rows : SixteenRows
unfolding write_answer write_bytes ascii all_at_most kind_of in_range list_in_range among count first_of place_from square_at same
    promotion_kind piece_kind is_check after piece_or read_takes read_rank read_file read_piece read_end read_promotion read_dest read_text
    agrees fits capture_test sole_that castling_move castle castled resolved read_answer
    optional promotion_letter piece_letter changes_files takes_of head_of candidates names castling_name first_name king_first name_of name_text name_check
    mark_of end_of san_text read_square piece_of letter_of letters_of letters_text
    onto joined tokens place_after place_where place_byte place_all side_of rights_of sided assembled of_tokens read_fen
    digit_text run_text slash_text ranks_text rights_text en_passant_text tail_text fen_text
    pair_told promotion_named with_dest with_source read_move
sixteen_rows = record {
  row1 = (refl, refl);
  row2 = refl;
  row3 = refl;
  row4 = (refl, refl);
  row5 = (refl, refl);
  row6 = (refl, refl);
  row7 = (refl, refl);
  row8 = refl;
  row9 = refl;
  row10 = refl;
  row11 = (refl, refl);
  row12 = record { answer = refl; text = refl };
  row13 = (refl, refl);
  row14 = record { answer = refl; text = refl };
  row15 = (refl, refl);
  row16 = record { answer = refl; text = refl };
}
