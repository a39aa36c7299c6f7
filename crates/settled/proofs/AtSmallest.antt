-- The rows, each computed.
-- Assumes nothing.
use mathlib.Core.Path.{refl}
use Rattle.answer.specs.Ascii.{ascii}
use Rattle.answer.specs.Answer.{write_answer, write_bytes}
use Rattle.answer.specs.Numbers.{all_at_most, among}
use Rattle.square.specs.Square.{read_square}
use Rattle.square.specs.Piece.{piece_of, letter_of}
use Rattle.castle_rights.specs.CastleRights.{letters_of, letters_text}
use Rattle.board_builder.specs.BoardBuilder.{in_range}
use Rattle.fen_text.specs.Token.{onto, joined, tokens, place_after, place_where}
use Rattle.fen_text.specs.Placement.{place_byte, place_all}
use Rattle.fen_text.specs.Read.{side_of, rights_of, sided, assembled, of_tokens, read_fen}
use Rattle.fen_text.specs.Write.{digit_text, run_text, slash_text, ranks_text, rights_text, en_passant_text, tail_text, fen_text}
use Rattle.move_rules.specs.After.{stood_before, stood_behind}
use Rattle.settled_rules.specs.Settled.{stepped_rank, stepped_pawn, own_pawn, usable, settled_file, settled}
use Rattle.settled.specs.Key.{settled_read, settled_bytes}
use Rattle.settled.specs.AtSmallest.{KeyRows}

pub key_rows : KeyRows
unfolding ascii write_answer write_bytes all_at_most among read_square piece_of letter_of letters_of letters_text in_range onto joined tokens
    place_after place_where place_byte place_all side_of rights_of sided assembled of_tokens read_fen digit_text run_text slash_text ranks_text
    rights_text en_passant_text tail_text fen_text stood_before stood_behind stepped_rank stepped_pawn own_pawn usable settled_file settled
    settled_read settled_bytes
key_rows = record {
  cleared = (refl, refl);
  none = (refl, refl);
  whites_cleared = (refl, refl);
  kept = (refl, refl);
  whites_kept = (refl, refl);
  few = refl;
  placement = refl;
  side = refl;
  short = refl;
  untouched = refl;
}
