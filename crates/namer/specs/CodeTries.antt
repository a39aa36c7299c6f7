-- What the steps of the namer leave in their eleven bytes. For its inner functions; the public contract does not speak of this.
-- Assumes nothing.
use Rattle.std.specs.Prelude.{ℕ, ◌≡◌, ◌≤◌, Bool, cond, List, eqb, length, take, Some, None}
use Rattle.std.specs.Prelude.{Option as Maybe}
use Rattle.std.proofs.Math.Option.{Option, none, some}
use Rattle.answer.specs.declared.Answer.{Answer}
use Rattle.answer.specs.Answer.{out_of_range, bad_list, not_listed, write_answer, write_bytes}
use Rattle.board_builder.specs.declared.BoardBuilder.{BoardBuilder}
use Rattle.chess_move.specs.Number.{source_of}
use Rattle.san_text.specs.Resolve.{kind_on}
use Rattle.san_text.specs.Name.{names, candidates, castling_name, first_name, name_text, name_check}
use Rattle.san_text.specs.Forms.{form_of}

-- the text, if there is one, stands in the first n of the bytes
abbrev pub Found : Option (List ℕ) → List ℕ → Maybe ℕ → Type 0
Found o bytes None = o ≡ none
Found o bytes (Some n) = (o ≡ some (take n bytes)) × (n ≤ length bytes)

-- a text that is tried: the text itself, if it names the move
abbrev pub tried : Bool → BoardBuilder → List ℕ → ℕ → List ℕ → Option (List ℕ)
tried form b moves m text = cond (names (form_of form) b moves m text) (some text) none

-- the first of the texts with source parts
abbrev pub other_names : Bool → BoardBuilder → List ℕ → ℕ → Bool → Option (List ℕ)
other_names form b moves m changes = first_name (names (form_of form) b moves m) (candidates ((form_of form).text b.pieces m) changes) none

abbrev pub is_king : List ℕ → ℕ → Bool
is_king pieces m = eqb (kind_on pieces (source_of m)) 6

-- the castling text of a castling pair with a king on its source
abbrev pub king_name : BoardBuilder → ℕ → Option (List ℕ)
king_name b m = cond (is_king b.pieces m) (castling_name b.side_to_move m) none

-- the checks 5, 6 and 11, in this order: the number of the first that fails, or 0
unfoldable pub first_check : Bool → Bool → Bool → ℕ
first_check board list listed = cond board (cond list (cond listed 0 not_listed) bad_list) out_of_range

-- what the namer of the form that the flag says answers, and what it leaves in the room
abbrev pub answer_in : Bool → BoardBuilder → List ℕ → ℕ → ℕ → Answer
answer_in form b moves m room = write_answer (name_check (form_of form) b moves m) (name_text (form_of form) b moves m) room

abbrev pub bytes_in : Bool → BoardBuilder → List ℕ → ℕ → List ℕ → List ℕ
bytes_in form b moves m out = write_bytes (name_check (form_of form) b moves m) (name_text (form_of form) b moves m) out
