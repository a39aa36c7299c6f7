-- Reports: each row computed.
-- Assumes nothing.
use mathlib.Core.Path.{refl}
use Rattle.answer.specs.Ascii.{ascii}
use Rattle.answer.specs.Numbers.{among, same}
use Rattle.square.specs.Piece.{piece_of}
use Rattle.square.specs.Square.{read_square}
use Rattle.board_builder.specs.BoardBuilder.{numbers}
use Rattle.fen_text.specs.Lines.{lines, over_lines}
use Rattle.fen_text.specs.Page.{page_fits, records_left, told_left}
use Rattle.fen_text.specs.Placement.{place_all, place_byte}
use Rattle.fen_text.specs.Read.{assembled, of_tokens, read_fen, rights_of, side_of, sided}
use Rattle.fen_text.specs.Token.{joined, onto, place_after, place_where, tokens}
use Rattle.report_text.specs.Promises.{different, sum_all, sum_over}
use Rattle.report_text.specs.Repeats.{found_below, repeats_below}
use Rattle.report_text.specs.Report.{has_record, men_with, refused_lines, repeated_behind, report_answer, report_records, report_told, squares_with}
use Rattle.report_text.specs.Report.{taken_records}
use Rattle.report_text.specs.Report.{with_taken}
use Rattle.text_rows.specs.Reports.{ReportsRefused, RepeatsCounted, RecordsCounted}

pub reports_refused : ReportsRefused
unfolding ascii among same piece_of read_square numbers lines over_lines page_fits records_left told_left place_all place_byte assembled of_tokens read_fen
    rights_of side_of sided joined onto place_after place_where tokens different sum_all sum_over found_below repeats_below has_record men_with refused_lines
    repeated_behind report_answer report_records report_told squares_with taken_records with_taken
reports_refused = record {
  most = refl;
  too_many = refl;
  too_short_fact = refl;
  bytes = refl;
  said = refl;
  kinds = refl;
}

pub repeats_counted : RepeatsCounted
unfolding ascii among same piece_of read_square numbers lines over_lines page_fits records_left told_left place_all place_byte assembled of_tokens read_fen
    rights_of side_of sided joined onto place_after place_where tokens different sum_all sum_over found_below repeats_below has_record men_with refused_lines
    repeated_behind report_answer report_records report_told squares_with taken_records with_taken
repeats_counted = record {
  one_before_three = refl;
  still_there = refl;
  zero_counts_not = refl;
  none_below_one = refl;
  no_line = refl;
  of_four = refl;
  of_five = refl;
  taken = refl;
  not_taken = refl;
  alike = refl;
  not_alike = refl;
}

pub records_counted : RecordsCounted
unfolding ascii among same piece_of read_square numbers lines over_lines page_fits records_left told_left place_all place_byte assembled of_tokens read_fen
    rights_of side_of sided joined onto place_after place_where tokens different sum_all sum_over found_below repeats_below has_record men_with refused_lines
    repeated_behind report_answer report_records report_told squares_with taken_records with_taken
records_counted = record {
  lengths = refl;
  summed = refl;
  each_once = refl;
  twice = refl;
}
