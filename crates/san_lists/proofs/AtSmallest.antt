-- The order's sentences on the smallest lists, each computed.
-- Assumes nothing.
use Prim.Native.Nat.{ℕ}
use mathlib.Core.Path.{◌≡◌, refl}
use native.Mathlib.Omega.{arith}
use Rattle.answer.specs.Answer.{write_answer, write_bytes}
use Rattle.answer.specs.Ascii.{ascii}
use Rattle.answer.specs.Numbers.{all_at_most, same, among}
use Rattle.square.specs.Piece.{kind_of}
use Rattle.board_builder.specs.BoardBuilder.{in_range}
use Rattle.move_list.specs.MoveList.{list_in_range, count, first_of}
use Rattle.san_text.specs.Place.{place_from, square_at}
use Rattle.san_text.specs.Text.{promotion_kind, piece_kind, is_check, after, piece_or, read_takes}
use Rattle.san_text.specs.Text.{read_rank, read_file, read_piece, read_end, read_promotion, read_dest, read_text}
use Rattle.san_text.specs.Resolve.{agrees, fits, capture_test, sole_that, castling_move, castle}
use Rattle.san_text.specs.Form.{castled, resolved, read_answer}
use Rattle.san_text.specs.Name.{optional, promotion_letter, piece_letter, changes_files, takes_of, head_of, candidates}
use Rattle.san_text.specs.Name.{names, castling_name, first_name, king_first, name_of, name_text, name_check}
use Rattle.san_text.specs.Paper.{mark_of, end_of, san_text, paper}
use Rattle.san_text.specs.Standard.{ends_here, standard_end, standard_promotion, standard_dest, is_castling, read_standard}
use Rattle.san_text.specs.Standard.{standard_captures, standard_castles, with_equals, standard_tail, standard_text, standard}
use Rattle.san_lists.specs.Calls.{calls_of}
use Rattle.san_lists.specs.AtSmallest.{ListsAtSmallest, InOneForm, AtSmallest}

lists_at_smallest : ListsAtSmallest
unfolding count among
lists_at_smallest = record {
  not_there = refl;
  once = refl;
  counted_each = refl;
  not_reordered = λ same. let z : ◌≡◌ {A = ℕ} 1 2 = same 1153 in omega arith;
}

in_document_01 : InOneForm (calls_of paper)
unfolding write_answer write_bytes ascii all_at_most kind_of in_range list_in_range among count first_of place_from square_at same promotion_kind piece_kind
    is_check after piece_or read_takes read_rank read_file read_piece read_end read_promotion read_dest read_text agrees fits capture_test sole_that
    castling_move castle castled resolved read_answer optional promotion_letter piece_letter changes_files takes_of head_of candidates names castling_name
    first_name king_first name_of name_text name_check mark_of end_of san_text
in_document_01 = record {
  read = (refl, refl);
  not_alone = (refl, refl);
  named = (record { answer = refl; text = refl }, record { answer = refl; text = refl });
  too_short_fact = (refl, refl);
  not_listed_fact = (refl, refl);
  unnamed = (refl, refl);
  left = refl;
  shorter = record { answer = refl; text = refl };
  all_gone = refl;
  refused_no_more = refl;
  kept = (refl, refl);
  one_too_many = refl;
  same_again = refl;
  full = refl;
  over_full = refl;
}

in_the_standard : InOneForm (calls_of standard)
unfolding write_answer write_bytes ascii all_at_most kind_of in_range list_in_range among count first_of place_from square_at same promotion_kind piece_kind
    is_check after piece_or read_takes read_rank read_file read_piece ends_here standard_end standard_promotion standard_dest is_castling read_standard agrees
    fits standard_captures standard_castles sole_that castling_move castle castled resolved read_answer optional promotion_letter piece_letter changes_files
    takes_of head_of candidates names castling_name first_name king_first name_of name_text name_check with_equals standard_tail standard_text
in_the_standard = record {
  read = (refl, refl);
  not_alone = (refl, refl);
  named = (record { answer = refl; text = refl }, record { answer = refl; text = refl });
  too_short_fact = (refl, refl);
  not_listed_fact = (refl, refl);
  unnamed = (refl, refl);
  left = refl;
  shorter = record { answer = refl; text = refl };
  all_gone = refl;
  refused_no_more = refl;
  kept = (refl, refl);
  one_too_many = refl;
  same_again = refl;
  full = refl;
  over_full = refl;
}

pub at_smallest : AtSmallest
unfolding write_answer write_bytes ascii all_at_most kind_of in_range list_in_range among count first_of place_from square_at same promotion_kind piece_kind
    is_check after piece_or read_takes read_rank read_file read_piece read_end read_promotion read_dest read_text agrees fits capture_test sole_that
    castling_move castle castled resolved read_answer optional promotion_letter piece_letter changes_files takes_of head_of candidates names castling_name
    first_name king_first name_of name_text name_check mark_of end_of san_text ends_here standard_end standard_promotion standard_dest is_castling
    read_standard standard_captures standard_castles with_equals standard_tail standard_text
at_smallest = record {
  lists = lists_at_smallest;
  paper_form = in_document_01;
  standard_form = in_the_standard;
  castling = record { answer = refl; text = refl };
  longer = record { answer = refl; text = refl };
  none_then = refl;
  named_now = record { answer = refl; text = refl };
}
