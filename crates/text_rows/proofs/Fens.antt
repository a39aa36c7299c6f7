-- Fens: each row computed.
-- Assumes nothing.
use mathlib.Core.Path.{refl}
use Rattle.answer.specs.Answer.{write_answer, write_bytes}
use Rattle.answer.specs.Ascii.{ascii}
use Rattle.answer.specs.Numbers.{all_at_most, among}
use Rattle.square.specs.Piece.{letter_of, piece_of}
use Rattle.square.specs.Square.{read_square}
use Rattle.decimal.specs.Decimal.{decimal, digits}
use Rattle.castle_rights.specs.CastleRights.{letters_of, letters_text}
use Rattle.board_builder.specs.BoardBuilder.{in_range}
use Rattle.fen_text.specs.Base.{base_assembled, base_fen, base_tokens}
use Rattle.fen_text.specs.Full.{clocked, counter_of, counters_read, digits_from, numbered, read_full, start_behind}
use Rattle.fen_text.specs.Lines.{ended_lines, ended_lines_by, lines, onto_ended}
use Rattle.fen_text.specs.Placement.{place_all, place_byte}
use Rattle.fen_text.specs.Read.{assembled, of_tokens, read_fen, rights_of, side_of, sided}
use Rattle.fen_text.specs.Token.{joined, onto, place_after, place_where, tokens}
use Rattle.fen_text.specs.Write.{digit_text, en_passant_text, fen_text, full_tail, full_text, ranks_text, rights_text, run_text, slash_text, tail_text}
use Rattle.text_rows.specs.Fens.{FensBefore, FensRefused, LongestTexts, LinesEnd}

pub fens_before : FensBefore
unfolding write_answer write_bytes ascii all_at_most among letter_of piece_of read_square decimal digits letters_of letters_text in_range base_assembled
    base_fen base_tokens clocked counter_of counters_read digits_from numbered read_full start_behind ended_lines ended_lines_by lines onto_ended place_all
    place_byte assembled of_tokens read_fen rights_of side_of sided joined onto place_after place_where tokens digit_text en_passant_text fen_text full_tail
    full_text ranks_text rights_text run_text slash_text tail_text
fens_before = record {
  initial = refl;
  white = refl;
  black = refl;
  three_tokens = refl;
  two_tokens = refl;
  one_token = refl;
  bad_placement_lem = refl;
  bad_side = refl;
}

pub fens_refused : FensRefused
unfolding write_answer write_bytes ascii all_at_most among letter_of piece_of read_square decimal digits letters_of letters_text in_range base_assembled
    base_fen base_tokens clocked counter_of counters_read digits_from numbered read_full start_behind ended_lines ended_lines_by lines onto_ended place_all
    place_byte assembled of_tokens read_fen rights_of side_of sided joined onto place_after place_where tokens digit_text en_passant_text fen_text full_tail
    full_text ranks_text rights_text run_text slash_text tail_text
fens_refused = record {
  side_a = refl;
  side_c = refl;
  side_x = refl;
  side_A = refl;
  side_V = refl;
  dash = refl;
  nine = refl;
  only_one = refl;
  only_two = refl;
  empty_fourth = refl;
  tab_is_no_space = refl;
  behind_a_smaller = refl;
  behind_a_larger = refl;
}

pub longest_texts : LongestTexts
unfolding write_answer write_bytes ascii all_at_most among letter_of piece_of read_square decimal digits letters_of letters_text in_range base_assembled
    base_fen base_tokens clocked counter_of counters_read digits_from numbered read_full start_behind ended_lines ended_lines_by lines onto_ended place_all
    place_byte assembled of_tokens read_fen rights_of side_of sided joined onto place_after place_where tokens digit_text en_passant_text fen_text full_tail
    full_text ranks_text rights_text run_text slash_text tail_text
longest_texts = record {
  of_the_crate = refl;
  full = refl;
}

pub lines_end : LinesEnd
unfolding write_answer write_bytes ascii all_at_most among letter_of piece_of read_square decimal digits letters_of letters_text in_range base_assembled
    base_fen base_tokens clocked counter_of counters_read digits_from numbered read_full start_behind ended_lines ended_lines_by lines onto_ended place_all
    place_byte assembled of_tokens read_fen rights_of side_of sided joined onto place_after place_where tokens digit_text en_passant_text fen_text full_tail
    full_text ranks_text rights_text run_text slash_text tail_text
lines_end = record {
  tab = refl;
  tab_ended = refl;
  second = refl;
  with_the_text = refl;
}
