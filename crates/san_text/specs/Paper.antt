-- The form of document 01: castling texts are taken whatever stands on e, `x` by the capture test, ` e.p.` if a pawn changes files to an empty square,
-- and the castling text of a castling pair as the last resort.
-- Assumes nothing.
use Rattle.std.specs.Prelude.{ℕ, Bool, true, ◌&&◌, List, ◌∷◌, ◌++◌}
use Rattle.std.proofs.Math.Option.{Option}
use Rattle.answer.specs.declared.Answer.{Answer}
use Rattle.answer.specs.Answer.{write_answer, write_bytes}
use Rattle.board_builder.specs.declared.BoardBuilder.{BoardBuilder}
use Rattle.chess_move.specs.Number.{dest_of, promotion_of}
use Rattle.san_text.specs.Place.{file_byte, rank_byte}
use Rattle.san_text.specs.Text.{mark_text, read_text}
use Rattle.san_text.specs.Resolve.{empty_on, capture_test}
use Rattle.san_text.specs.Form.{Form, read_answer}
use Rattle.san_text.specs.Name.{optional, promotion_letter, changes_files, head_of, name_text, name_check}

-- ` e.p.` if a pawn changes files to an empty square
unfoldable pub mark_of : List ℕ → ℕ → Bool
mark_of pieces m = changes_files pieces m && empty_on pieces (dest_of m)

-- the square, the promotion letter and the mark
unfoldable pub end_of : List ℕ → ℕ → List ℕ
end_of pieces m = file_byte (dest_of m) ∷ rank_byte (dest_of m) ∷ (promotion_letter (promotion_of m) ++ optional (mark_of pieces m) mark_text)

-- the whole text
unfoldable pub san_text : List ℕ → ℕ → Bool → Bool → List ℕ
san_text pieces m file rank = head_of pieces m file rank ++ end_of pieces m

abbrev pub paper : Form
paper = record { read = read_text; captures = capture_test; castles = λ (b : BoardBuilder). true; text = san_text; resort = λ (o : Option (List ℕ)). o }

-- what the reader answers
abbrev pub from_san : BoardBuilder → List ℕ → List ℕ → Answer
from_san b moves text = read_answer paper b moves text

-- what the namer answers to a record, a list, a move and the length of a room, and what it leaves in the room
abbrev pub name_answer : BoardBuilder → List ℕ → ℕ → ℕ → Answer
name_answer b moves m room = write_answer (name_check paper b moves m) (name_text paper b moves m) room

abbrev pub name_bytes : BoardBuilder → List ℕ → ℕ → List ℕ → List ℕ
name_bytes b moves m out = write_bytes (name_check paper b moves m) (name_text paper b moves m) out
