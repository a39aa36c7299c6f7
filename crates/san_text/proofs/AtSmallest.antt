-- The points that a slip would break, each computed.
-- Assumes nothing.
use mathlib.Core.Path.{refl}
use Rattle.answer.specs.Answer.{write_answer, write_bytes}
use Rattle.answer.specs.Ascii.{ascii}
use Rattle.answer.specs.Numbers.{all_at_most, same, among}
use Rattle.square.specs.Piece.{kind_of}
use Rattle.board_builder.specs.BoardBuilder.{in_range}
use Rattle.move_list.specs.MoveList.{list_in_range, count, first_of}
use Rattle.san_text.specs.Place.{place_from, square_at}
use Rattle.san_text.specs.Text.{promotion_kind, piece_kind, is_check, after, piece_or, read_takes}
use Rattle.san_text.specs.Text.{read_rank, read_file, read_piece, read_end, read_promotion, read_dest, read_text}
use Rattle.san_text.specs.Resolve.{agrees, fits, capture_test, sole_that, castling_move, castle}
use Rattle.san_text.specs.Form.{castled, resolved, read_answer}
use Rattle.san_text.specs.Name.{optional, promotion_letter, piece_letter, changes_files, takes_of, head_of, candidates}
use Rattle.san_text.specs.Name.{names, castling_name, first_name, king_first, name_of, name_text, name_check}
use Rattle.san_text.specs.Paper.{mark_of, end_of, san_text}
use Rattle.san_text.specs.Slips.{Slips}

pub slips : Slips
unfolding write_answer write_bytes ascii all_at_most kind_of in_range list_in_range among count first_of place_from square_at same promotion_kind piece_kind
    is_check after piece_or read_takes read_rank read_file read_piece read_end read_promotion read_dest read_text agrees fits capture_test sole_that
    castling_move castle castled resolved read_answer optional promotion_letter piece_letter changes_files takes_of head_of candidates names castling_name
    first_name king_first name_of name_text name_check mark_of end_of san_text
slips = record {
  second_fit = refl;
  takes_behind = refl;
  equal_entries = refl;
  mark_alone = refl;
  check_then_mark = refl;
  mate_then_mark = refl;
  one_sign = refl;
  either_king = record { answer = refl; text = refl };
  no_king_promotion = refl;
}
