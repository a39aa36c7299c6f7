-- What is promised about positions and their bytes, each as a statement that can be read by itself.
-- Assumes nothing.
use Rattle.std.specs.Prelude.{◌≡◌, true, List, ℕ, length, take}
use Rattle.answer.specs.Answer.{write_answer, write_bytes}
use Rattle.position.specs.Layout.{Position, position_size, position_of}
use Rattle.stored_position.specs.Bytes.{position_bytes, position_check, is_position}

-- a position in range has 584 bytes
abbrev pub OneSize : Type 0
OneSize = (p : Position) → position_check p ≡ 0 → length (position_bytes p) ≡ position_size

-- a written position reads back to itself, and its bytes are those of a position
abbrev pub PositionsReadBack : Type 0
PositionsReadBack = (p : Position) (out : List ℕ) → (write_answer (position_check p) (position_bytes p) (length out)).number ≡ 0 →
    position_of (take position_size (write_bytes (position_check p) (position_bytes p) out)) ≡ p

abbrev pub WrittenIsPosition : Type 0
WrittenIsPosition = (p : Position) → position_check p ≡ 0 → is_position (position_bytes p) ≡ true

-- no other bytes stand for it
abbrev pub OnePositionForm : Type 0
OnePositionForm = (s : List ℕ) → is_position s ≡ true → (position_check (position_of s) ≡ 0) × (s ≡ position_bytes (position_of s))
