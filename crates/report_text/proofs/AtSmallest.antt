-- Order 14 at its smallest pages, each computed.
-- Assumes nothing.
use mathlib.Core.Path.{refl}
use Rattle.answer.specs.Ascii.{ascii}
use Rattle.answer.specs.Numbers.{among, same}
use Rattle.square.specs.Square.{read_square}
use Rattle.square.specs.Piece.{piece_of}
use Rattle.board_builder.specs.BoardBuilder.{numbers}
use Rattle.fen_text.specs.Token.{onto, joined, tokens, place_after, place_where}
use Rattle.fen_text.specs.Placement.{place_byte, place_all}
use Rattle.fen_text.specs.Read.{side_of, rights_of, sided, assembled, of_tokens, read_fen}
use Rattle.fen_text.specs.Lines.{lines, over_lines}
use Rattle.fen_text.specs.Page.{page_fits, records_left, told_left}
use Rattle.report_text.specs.Report.{with_taken, taken_records, refused_lines, squares_with, men_with, has_record, repeated_behind}
use Rattle.report_text.specs.Report.{report_answer, report_records, report_told}
use Rattle.report_text.specs.Sets.{set_of}
use Rattle.report_text.specs.AtSmallest.{ReportsAtSmallest, RefusalsAtSmallest, SetsAtSmallest}

pub reports_at_smallest : ReportsAtSmallest
unfolding ascii among same read_square piece_of numbers onto joined tokens place_after place_where place_byte place_all side_of rights_of sided assembled
    of_tokens read_fen lines page_fits with_taken taken_records refused_lines squares_with men_with has_record repeated_behind report_answer
reports_at_smallest = record {
  no_line = refl;
  empty_line = refl;
  each_kind = refl;
  white_pawns = refl;
  black_kings = refl;
  summed = refl;
  refused_men = refl;
  three = refl;
  spelt = refl;
  in_between = refl;
  other_side = refl;
  other_rights = refl;
  other_file = refl;
  behind_refused = refl;
  refused_behind = refl;
  refused_twice = refl;
}

pub refusals_at_smallest : RefusalsAtSmallest
unfolding ascii among same read_square piece_of numbers onto joined tokens place_after place_where place_byte place_all side_of rights_of sided assembled
    of_tokens read_fen lines over_lines page_fits records_left told_left with_taken taken_records refused_lines squares_with men_with has_record
    repeated_behind report_answer report_records report_told
refusals_at_smallest = record {
  too_many = refl;
  as_many = refl;
  unended = refl;
  records_short = refl;
  told_short = refl;
  most = refl;
  one_more_lem = refl;
  one_byte_more = refl;
  bytes = refl;
  said = refl;
  too_many_bytes = refl;
  too_many_said = refl;
  short_bytes = refl;
  short_said = refl;
}

pub sets_at_smallest : SetsAtSmallest
unfolding set_of
sets_at_smallest = record {
  first = refl;
  third = refl;
  two = refl;
}
