-- What this crate promises about the board record and its builder, each as a statement that can be read by itself.
-- Assumes nothing.
use Rattle.std.specs.Prelude.{ℕ, ◌≡◌, Bool, true, false, ◌&&◌, List, length}
use Rattle.answer.specs.Answer.{out_of_range}
use Rattle.board_builder.specs.declared.BoardBuilder.{BoardBuilder}
use Rattle.board_builder.specs.declared.Stepped.{Stepped}
use Rattle.board_builder.specs.BoardBuilder.{uncounted, numbers, all_numbers, board_of, record_size, no_board, in_range}
use Rattle.board_builder.specs.Steps.{stepped, step, set_piece, clear_square, set_side, set_rights, set_en_passant, set_half_moves, set_full_moves}

-- a step hands its record back with 5, or answers 0 with a record in range
pub record KeepsRange (old : BoardBuilder) (r : Stepped) : Type 0 where
  pub refused : (r.number ≡ 0 → ⊥) → r ≡ stepped out_of_range old
  pub made : r.number ≡ 0 → (in_range old ≡ true) × (in_range r.board ≡ true)

-- .. whichever step it is
pub record StepsKeepRange (b : BoardBuilder) : Type 0 where
  pub piece : (square code : ℕ) → KeepsRange b (set_piece b square code)
  pub clear_square_fact : (square : ℕ) → KeepsRange b (clear_square b square)
  pub side_to_move : (colour : ℕ) → KeepsRange b (set_side b colour)
  pub castle_rights : (colour rights : ℕ) → KeepsRange b (set_rights b colour rights)
  pub en_passant : (file : ℕ) → KeepsRange b (set_en_passant b file)
  pub half_moves : (count : ℕ) → KeepsRange b (set_half_moves b count)
  pub full_moves : (count : ℕ) → KeepsRange b (set_full_moves b count)

abbrev pub EveryStepKeepsRange : Type 0
EveryStepKeepsRange = (b : BoardBuilder) → StepsKeepRange b

-- a step given any number out of range, its record's too, hands its record back with 5
abbrev pub OutOfRangeHandsBack : Type 0
OutOfRangeHandsBack = (ok : Bool) (new old : BoardBuilder) → in_range old && ok ≡ false → step ok new old ≡ stepped out_of_range old

-- a record in range has 68 numbers beside its counters, and 70 in all, and these are the record
abbrev pub SixtyEightNumbers : Type 0
SixtyEightNumbers = (b : BoardBuilder) → in_range b ≡ true → length (numbers b) ≡ record_size

abbrev pub SeventyNumbers : Type 0
SeventyNumbers = (b : BoardBuilder) → in_range b ≡ true → length (all_numbers b) ≡ 70

abbrev pub NumbersAreTheRecord : Type 0
NumbersAreTheRecord = (a b : BoardBuilder) → in_range a ≡ true → in_range b ≡ true → all_numbers a ≡ all_numbers b → a ≡ b

-- the 68 are all of the record but its counters
abbrev pub NumbersAreThePosition : Type 0
NumbersAreThePosition = (a b : BoardBuilder) → in_range a ≡ true → in_range b ≡ true → numbers a ≡ numbers b → uncounted a ≡ uncounted b

-- 68 numbers are those of the record that they stand for: the boards of the histories, which are lists, and the structs of the calls say the same
abbrev pub RecordOfNumbers : Type 0
RecordOfNumbers = (l : List ℕ) → length l ≡ record_size → numbers (board_of l) ≡ l

abbrev pub NumbersOfRecord : Type 0
NumbersOfRecord = (b : BoardBuilder) → in_range b ≡ true → board_of (numbers b) ≡ uncounted b

-- what is handed out beside a refusal is no record in range
abbrev pub NoneIsOutOfRange : Type 0
NoneIsOutOfRange = in_range no_board ≡ false
