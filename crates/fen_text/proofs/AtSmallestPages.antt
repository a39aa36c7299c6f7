-- Order 7 at its smallest texts, each computed.
-- Assumes nothing.
use mathlib.Core.Path.{refl}
use Rattle.answer.specs.Ascii.{ascii}
use Rattle.square.specs.Square.{read_square}
use Rattle.square.specs.Piece.{piece_of}
use Rattle.answer.specs.Numbers.{among}
use Rattle.board_builder.specs.BoardBuilder.{numbers}
use Rattle.fen_text.specs.Token.{onto, joined, tokens, place_after, place_where}
use Rattle.fen_text.specs.Placement.{place_byte, place_all}
use Rattle.fen_text.specs.Read.{side_of, rights_of, sided, assembled, of_tokens, read_fen}
use Rattle.fen_text.specs.Lines.{lines, onto_ended, ended_lines_by, ended_lines, over_lines}
use Rattle.fen_text.specs.Page.{page_fits, page_answer, records_left, told_left}
use Rattle.fen_text.specs.PagesAtSmallest.{LinesAtSmallest, PagesAtSmallest}

pub lines_at_smallest : LinesAtSmallest
unfolding ascii onto joined lines onto_ended ended_lines_by ended_lines
lines_at_smallest = record {
  none = refl;
  one_byte = refl;
  ended_line = refl;
  newline_alone = refl;
  empty_between = refl;
  unended_left_out = refl;
}

pub pages_at_smallest : PagesAtSmallest
unfolding ascii read_square piece_of among numbers onto joined tokens place_after place_where place_byte place_all side_of rights_of sided assembled of_tokens
    read_fen lines over_lines page_fits page_answer records_left told_left
pages_at_smallest = record {
  two = refl;
  records_short = refl;
  told_short = refl;
  empty_page = refl;
  offsets = refl;
  second_offset = refl;
  record_bytes = refl;
  nothing_written = refl;
  nothing_said = refl;
}
