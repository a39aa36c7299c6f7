-- KeyLines: each row computed.
-- Assumes nothing.
use mathlib.Core.Path.{refl}
use Rattle.answer.specs.Ascii.{ascii}
use Rattle.answer.specs.Numbers.{among}
use Rattle.square.specs.Piece.{letter_of, piece_of}
use Rattle.square.specs.Square.{read_square}
use Rattle.decimal.specs.Decimal.{decimal, digits}
use Rattle.castle_rights.specs.CastleRights.{letters_of, letters_text}
use Rattle.fen_text.specs.Lines.{ended_lines, ended_lines_by, lines, onto_ended, over_lines}
use Rattle.fen_text.specs.Placement.{place_all, place_byte}
use Rattle.fen_text.specs.Read.{assembled, of_tokens, read_fen, rights_of, side_of, sided}
use Rattle.fen_text.specs.Token.{joined, onto, place_after, place_where, tokens}
use Rattle.fen_text.specs.Write.{digit_text, en_passant_text, fen_text, ranks_text, rights_text, run_text, slash_text, tail_text}
use Rattle.key_line.specs.KeyLine.{key_line}
use Rattle.key_line.specs.KeyPage.{bytes_of, going, keys_among, keys_text}
use Rattle.text_rows.specs.KeyLines.{KeysLineByLine, KeysPageByPage}

pub keys_line_by_line : KeysLineByLine
unfolding ascii among letter_of piece_of read_square decimal digits letters_of letters_text ended_lines ended_lines_by lines onto_ended over_lines place_all
    place_byte assembled of_tokens read_fen rights_of side_of sided joined onto place_after place_where tokens digit_text en_passant_text fen_text ranks_text
    rights_text run_text slash_text tail_text key_line bytes_of going keys_among keys_text
keys_line_by_line = record {
  key = refl;
  refused = refl;
  refused_at_0 = refl;
  whole = refl;
  longest = refl;
}

pub keys_page_by_page : KeysPageByPage
unfolding ascii among letter_of piece_of read_square decimal digits letters_of letters_text ended_lines ended_lines_by lines onto_ended over_lines place_all
    place_byte assembled of_tokens read_fen rights_of side_of sided joined onto place_after place_where tokens digit_text en_passant_text fen_text ranks_text
    rights_text run_text slash_text tail_text key_line bytes_of going keys_among keys_text
keys_page_by_page = record {
  three = refl;
  two = refl;
  none = refl;
  refused_at_0 = refl;
  bytes = refl;
  put_out_fact = refl;
}
