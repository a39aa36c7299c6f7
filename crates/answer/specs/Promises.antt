-- What this crate promises about answers and about any writer of texts, each as a statement that can be read by itself.
-- Assumes nothing.
use Rattle.std.specs.Prelude.{ℕ, ◌≤◌, ◌<◌, ◌≡◌, List, length, take, drop}
use Rattle.answer.specs.declared.Answer.{Answer}
use Rattle.answer.specs.Answer.{output_too_short, overwrite, write_answer, write_bytes}

-- a refused call changes no byte
abbrev pub RefusedWritesNothing : Type 0
RefusedWritesNothing = (check : ℕ) (text out : List ℕ) → ((write_answer check text (length out)).number ≡ 0 → ⊥) → write_bytes check text out ≡ out

-- an accepted call writes exactly its text: the first bytes are the text, as many as the value says, and the others are as they were
pub record WritesItsText (check : ℕ) (text out : List ℕ) : Type 0 where
  pub long : (write_answer check text (length out)).value ≡ length text
  pub front : take (length text) (write_bytes check text out) ≡ text
  pub behind : drop (length text) (write_bytes check text out) ≡ drop (length text) out

abbrev pub AcceptedWritesItsText : Type 0
AcceptedWritesItsText = (check : ℕ) (text out : List ℕ) → (write_answer check text (length out)).number ≡ 0 → WritesItsText check text out

-- The same and the lengths told, for any writer: what it answers to the length of a room, and the bytes that it leaves in a room.

-- 0: the room is long enough for the text, the value is its length, and exactly its bytes are changed
pub record Fitted (text out : List ℕ) (value : ℕ) (exit : List ℕ) : Type 0 where
  pub room : length text ≤ length out
  pub long : value ≡ length text
  pub bytes : exit ≡ overwrite text out

-- 7: the value is the length needed: a room of that length is accepted, and this one is shorter
pub record Needed (text : List ℕ) (answer : ℕ → Answer) (room : ℕ) : Type 0 where
  pub long : (answer room).value ≡ length text
  pub shorter : room < length text
  pub enough : (answer (length text)).number ≡ 0

-- its text, one for all rooms; any other refusal has the value 0, and a refused call changes no byte
pub record ItsText (text : List ℕ) (answer : ℕ → Answer) (bytes : List ℕ → List ℕ) : Type 0 where
  pub fitted : (out : List ℕ) → (answer (length out)).number ≡ 0 → Fitted text out (answer (length out)).value (bytes out)
  pub needed : (room : ℕ) → (answer room).number ≡ output_too_short → Needed text answer room
  pub nothing : (room : ℕ) → ((answer room).number ≡ 0 → ⊥) → ((answer room).number ≡ output_too_short → ⊥) → (answer room).value ≡ 0
  pub unchanged : (out : List ℕ) → ((answer (length out)).number ≡ 0 → ⊥) → bytes out ≡ out

-- it is kept by ours, whatever the text; a check before 7 does not give 7
abbrev pub WritersKeepItsText : Type 0
WritersKeepItsText = (check : ℕ) (text : List ℕ) → (check ≡ output_too_short → ⊥) → ItsText text (write_answer check text) (write_bytes check text)

-- an invented length: the numbers and the bytes are those of another writer, and some room is told another value
pub record Invented (theirs : ℕ → Answer) (left : List ℕ → List ℕ) (answer : ℕ → Answer) (bytes : List ℕ → List ℕ) : Type 0 where
  pub numbers : (room : ℕ) → (answer room).number ≡ (theirs room).number
  pub writes : (out : List ℕ) → bytes out ≡ left out
  pub room : ℕ
  pub another : (answer room).value ≡ (theirs room).value → ⊥

-- such a writer does not keep it with any text where the other keeps it, whatever function of the room's length the invented value is
abbrev pub InventedLengthFails : Type 0
InventedLengthFails =
    (theirs answer : ℕ → Answer) (left bytes : List ℕ → List ℕ) (their-text text : List ℕ)
    → ItsText their-text theirs left → Invented theirs left answer bytes → ItsText text answer bytes → ⊥
