-- The rows, each computed.
-- Assumes nothing.
use mathlib.Core.Path.{refl}
use Rattle.answer.specs.Ascii.{ascii}
use Rattle.pgn_text.specs.Bytes.{is_white, is_digit, is_letter, starts_move, is_sign, in_move, in_run, onward, run_length, begins_with}
use Rattle.pgn_text.specs.Token.{is_result, number, glyph, brace_comment, line_comment, token}
use Rattle.pgn_text.specs.Walk.{at_end, met, walk, walk_from, end_count, counted, no_move_found, move_found, first_move, check, next_move}
use Rattle.pgn_text.specs.Main.{first_main, next_main, MainAtSmallest}
use Rattle.pgn_text.specs.Between.{cross_met, cross, crossed_from, across_with, next_across, BetweenAtSmallest}
use Rattle.pgn_text.specs.AtSmallest.{TokensAtSmallest, LevelsAtSmallest, PlacesAtSmallest}

pub tokens_at_smallest : TokensAtSmallest
unfolding ascii is_white is_digit is_letter starts_move is_sign in_move in_run onward run_length begins_with
    is_result number glyph brace_comment line_comment token at_end met walk walk_from end_count counted check
tokens_at_smallest = record {
  numbers = (refl, refl, refl, refl);
  starts = (refl, refl, refl, refl, refl);
  runs = (refl, refl);
  letters = (refl, refl, refl, refl, refl);
  colon = refl;
  braces = (refl, refl, refl, refl, refl);
  lines = (refl, refl);
  breaks = (refl, refl, refl, refl);
  glyphs = (refl, refl, refl);
  results = (refl, refl, refl, refl, refl);
  no_results = (refl, refl, refl, refl);
  in_brackets = (refl, refl);
}

pub levels_at_smallest : LevelsAtSmallest
unfolding ascii is_white is_digit is_letter starts_move is_sign in_move in_run onward run_length begins_with
    is_result number glyph brace_comment line_comment token at_end met walk walk_from end_count counted check
levels_at_smallest = record {
  nested = (refl, refl, refl, refl);
  deep = (refl, refl, refl);
  left_first = (refl, refl);
  left_open_fact = (refl, refl, refl, refl);
}

pub places_at_smallest : PlacesAtSmallest
unfolding ascii is_white is_digit is_letter starts_move is_sign in_move in_run onward run_length begins_with
    is_result number glyph brace_comment line_comment token at_end met walk walk_from no_move_found move_found first_move next_move
places_at_smallest = record {
  from_start = (refl, refl, refl, refl);
  as_if_begun = (refl, refl, refl);
  no_place = (refl, refl, refl, refl);
  open_before = (refl, refl, refl, refl);
  closed_before = (refl, refl, refl);
  at_deepest = (refl, refl);
  not_looked_at = (refl, refl);
}

pub main_at_smallest : MainAtSmallest
unfolding ascii is_white is_digit is_letter starts_move is_sign in_move in_run onward run_length begins_with
    is_result number glyph brace_comment line_comment token at_end met walk walk_from no_move_found move_found first_main next_main
main_at_smallest = record {
  outside = (refl, refl, refl);
  refusals = (refl, refl, refl, refl, refl);
}

pub between_rows : BetweenAtSmallest
unfolding crossed_from cross cross_met is_white is_digit is_letter starts_move is_sign in_move in_run onward run_length begins_with number brace_comment
    line_comment glyph is_result token ascii at_end met walk walk_from move_found no_move_found first_move next_move across_with next_across
between_rows = record {
  two = (refl, refl, refl);
  one = (refl, refl, refl);
  hidden = (refl, refl, refl, refl, refl);
  across = refl;
  too_deep_fact = refl;
  stray = refl;
  none = (refl, refl, refl);
}
