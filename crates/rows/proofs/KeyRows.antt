-- The key of a settled record by two calls, each row computed.
-- Assumes nothing.
use mathlib.Core.Path.{refl}
use Rattle.answer.specs.Answer.{write_answer, write_bytes}
use Rattle.answer.specs.Ascii.{ascii}
use Rattle.answer.specs.Numbers.{all_at_most, among}
use Rattle.square.specs.Piece.{letter_of, piece_of}
use Rattle.square.specs.Square.{read_square}
use Rattle.castle_rights.specs.CastleRights.{letters_of, letters_text}
use Rattle.board_builder.specs.BoardBuilder.{in_range}
use Rattle.fen_text.specs.Placement.{place_all, place_byte}
use Rattle.fen_text.specs.Read.{assembled, of_tokens, read_fen, rights_of, side_of, sided}
use Rattle.fen_text.specs.Token.{joined, onto, place_after, place_where, tokens}
use Rattle.fen_text.specs.Write.{digit_text, en_passant_text, fen_text, ranks_text, rights_text, run_text, slash_text, tail_text}
use Rattle.move_rules.specs.After.{stood_before, stood_behind}
use Rattle.settled_rules.specs.Settled.{own_pawn, settled, settled_answer, settled_file, stepped_pawn, stepped_rank, usable}
use Rattle.rows.specs.KeyRows.{KeysByTwoCalls}

pub keys_by_two_calls : KeysByTwoCalls
unfolding write_answer write_bytes ascii all_at_most among letter_of piece_of read_square letters_of letters_text in_range place_all place_byte assembled
    of_tokens read_fen rights_of side_of sided joined onto place_after place_where tokens digit_text en_passant_text fen_text ranks_text rights_text run_text
    slash_text tail_text stood_before stood_behind own_pawn settled settled_answer settled_file stepped_pawn stepped_rank usable
keys_by_two_calls = record {
  cleared = refl;
  kept = refl;
}
