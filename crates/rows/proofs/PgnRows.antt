-- Move text byte by byte, each row computed.
-- Assumes nothing.
use mathlib.Core.Path.{refl}
use Rattle.answer.specs.Ascii.{ascii}
use Rattle.pgn_text.specs.Between.{across_with, cross, cross_met, crossed_from, next_across}
use Rattle.pgn_text.specs.Bytes.{begins_with, in_move, in_run, is_digit, is_letter, is_sign, is_white, onward, run_length, starts_move}
use Rattle.pgn_text.specs.Promises.{end_number, end_offset, moves_of, walked}
use Rattle.pgn_text.specs.Token.{brace_comment, glyph, is_result, line_comment, number, token}
use Rattle.pgn_text.specs.Walk.{at_end, check, counted, end_count, first_move, met, move_found, next_move, no_move_found, part, walk, walk_from}
use Rattle.rows.specs.PgnRows.{BytesBeside, BracketsBetween, WalksFromPlaces, ReaderAtPlace}

pub bytes_beside : BytesBeside
unfolding ascii across_with cross cross_met crossed_from next_across begins_with in_move in_run is_digit is_letter is_sign is_white onward run_length
    starts_move end_number end_offset moves_of walked brace_comment glyph is_result line_comment number token at_end check counted end_count first_move met
    move_found next_move no_move_found part walk walk_from
bytes_beside = record {
  white = (refl, refl, refl, refl, refl, refl);
  brace = refl;
  comma = refl;
  slash_one = refl;
  slash_nought = refl;
  no_glyph = refl;
  move_at = refl;
  bracket_at = refl;
  part_of = refl;
}

pub brackets_between : BracketsBetween
unfolding ascii across_with cross cross_met crossed_from next_across begins_with in_move in_run is_digit is_letter is_sign is_white onward run_length
    starts_move end_number end_offset moves_of walked brace_comment glyph is_result line_comment number token at_end check counted end_count first_move met
    move_found next_move no_move_found part walk walk_from
brackets_between = record {
  one_left = refl;
  two_left = refl;
  comment = refl;
  left_open_fact = refl;
  unknown = refl;
  no_more = refl;
  across = refl;
  refused = refl;
}

pub walks_from_places : WalksFromPlaces
unfolding ascii across_with cross cross_met crossed_from next_across begins_with in_move in_run is_digit is_letter is_sign is_white onward run_length
    starts_move end_number end_offset moves_of walked brace_comment glyph is_result line_comment number token at_end check counted end_count first_move met
    move_found next_move no_move_found part walk walk_from
walks_from_places = record {
  all = refl;
  behind = refl;
  last = refl;
  moves = refl;
  number = refl;
  offset = refl;
}

pub reader_at_place : ReaderAtPlace
reader_at_place = record {
  text = λ text. refl;
  offset = λ text. refl;
  level = λ text. refl;
}
