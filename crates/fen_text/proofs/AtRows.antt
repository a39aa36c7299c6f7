-- The paper's FEN rows and the initial position, each computed.
-- Assumes nothing.
use mathlib.Core.Path.{refl}
use Rattle.answer.specs.Ascii.{ascii}
use Rattle.square.specs.Square.{read_square}
use Rattle.square.specs.Piece.{piece_of, letter_of}
use Rattle.answer.specs.Numbers.{among, all_at_most}
use Rattle.board_builder.specs.BoardBuilder.{in_range}
use Rattle.castle_rights.specs.CastleRights.{letters_of, letters_text}
use Rattle.fen_text.specs.Token.{onto, joined, tokens, place_after, place_where}
use Rattle.fen_text.specs.Placement.{place_byte, place_all}
use Rattle.fen_text.specs.Read.{side_of, rights_of, sided, assembled, of_tokens, read_fen}
use Rattle.fen_text.specs.Write.{digit_text, run_text, slash_text, ranks_text, rights_text, en_passant_text, tail_text, fen_text}
use Rattle.fen_text.specs.Rows.{FenRows}

pub fen_rows : FenRows
unfolding all_at_most in_range ascii read_square piece_of letter_of letters_of letters_text among onto joined tokens place_after place_where place_byte
    place_all side_of rights_of sided assembled of_tokens read_fen digit_text run_text slash_text ranks_text rights_text en_passant_text tail_text fen_text
fen_rows = record {
  empty_placement = (refl, refl);
  three_tokens = refl;
  nine = refl;
  en_passant_rank = (refl, refl);
  blacks_en_passant_rank = (refl, refl);
  bad_en_passant = (refl, refl);
  slash_to_a = (refl, refl);
  letter_around = (refl, refl);
  digit_around = (refl, refl);
  rank_around = (refl, refl);
  zero = refl;
  each_sign = refl;
  two_tokens = refl;
  empty_last = (refl, refl);
  upper_white = (refl, refl);
  upper_black = (refl, refl);
  anywhere = (refl, refl);
  rights_read = refl;
  rights_written = refl;
  white_alone = (refl, refl);
  black_alone = (refl, refl);
  bad_rank = (refl, refl);
  rest_dropped = (refl, refl);
  no_record = refl;
  a_record = refl;
  initial_read = refl;
  initial_written = refl;
}
