-- The rows of the standard's form, computed.
-- Assumes nothing.
use mathlib.Core.Path.{refl}
use Rattle.answer.specs.Answer.{write_answer, write_bytes}
use Rattle.answer.specs.Ascii.{ascii}
use Rattle.answer.specs.Numbers.{all_at_most, same, among}
use Rattle.square.specs.Piece.{kind_of}
use Rattle.board_builder.specs.BoardBuilder.{in_range}
use Rattle.move_list.specs.MoveList.{list_in_range, count, first_of}
use Rattle.san_text.specs.Place.{place_from, square_at}
use Rattle.san_text.specs.Text.{promotion_kind, piece_kind, is_check, after, piece_or, read_takes, read_rank, read_file, read_piece}
use Rattle.san_text.specs.Resolve.{agrees, fits, sole_that, castling_move, castle}
use Rattle.san_text.specs.Form.{castled, resolved, read_answer}
use Rattle.san_text.specs.Name.{optional, promotion_letter, piece_letter, changes_files, takes_of, head_of, candidates}
use Rattle.san_text.specs.Name.{names, castling_name, first_name, king_first, name_of, name_text, name_check}
use Rattle.san_text.specs.Standard.{ends_here, standard_end, standard_promotion, standard_dest, is_castling, read_standard, standard_captures}
use Rattle.san_text.specs.Standard.{standard_castles, with_equals, standard_tail, standard_text}
use Rattle.san_text.specs.Rows.{StandardRows}

pub standard_rows : StandardRows
unfolding write_answer write_bytes ascii all_at_most kind_of in_range list_in_range among count first_of place_from square_at same promotion_kind piece_kind
    is_check after piece_or read_takes read_rank read_file read_piece ends_here standard_end standard_promotion standard_dest is_castling read_standard agrees
    fits standard_captures standard_castles sole_that castling_move castle castled resolved read_answer optional promotion_letter piece_letter changes_files
    takes_of head_of candidates names castling_name first_name king_first name_of name_text name_check with_equals standard_tail standard_text
standard_rows = record {
  equals = refl;
  no_equals = refl;
  named_equals = record { answer = refl; text = refl };
  takes_behind = refl;
  tail = refl;
  two_marks = refl;
  en_passant = refl;
  without = refl;
  marked = refl;
  named_en_passant = record { answer = refl; text = refl };
  fileless = refl;
  straight_on = record { answer = refl; text = refl };
  rook_on_e = refl;
  castling = refl;
  rook_named = record { answer = refl; text = refl };
  no_resort = refl;
  black_castles = refl;
  five_before_six = refl;
  six_before_four = refl;
  name_five_first = refl;
  name_six_next = refl;
  name_eleven_next = refl;
  name_eight_next = refl;
  mate_mark = refl;
  queen_side_mark = refl;
  straight_no_x = refl;
  without_x = refl;
  rank_alone = refl;
  bare_equals = refl;
  suffix = refl;
}
