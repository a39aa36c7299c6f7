-- What is promised about the board after a move, each as a statement that can be read by itself.
-- Assumes nothing.
use Rattle.std.specs.Prelude.{◌≡◌, true, false, cond, List, [], ◌∷◌, ◌++◌, ℕ, ◌≤◌, ◌<◌, length}
use Rattle.square.specs.Piece.{man_on}
use Rattle.answer.specs.Answer.{out_of_range, bad_list}
use Rattle.answer.specs.Numbers.{among}
use Rattle.square.specs.Square.{square_of}
use Rattle.board_builder.specs.declared.BoardBuilder.{BoardBuilder}
use Rattle.board_builder.specs.declared.Stepped.{Stepped}
use Rattle.board_builder.specs.BoardBuilder.{in_range, numbers_in_range}
use Rattle.board_builder.specs.Steps.{stepped}
use Rattle.chess_move.specs.Number.{last_move}
use Rattle.move_rules.specs.After.{rank, file, castles, corner, passed_over, takes_in_passing, set_down, squares_after, board_after, record_after}
use Rattle.move_rules.specs.After.{after_answer}

-- a record in range gives a record in range
abbrev pub AfterInRange : Type 0
AfterInRange = (b : BoardBuilder) (m : ℕ) → in_range b ≡ true → m ≤ last_move → in_range (board_after b m) ≡ true

-- the same for its 68 numbers
abbrev pub RecordAfterInRange : Type 0
RecordAfterInRange = (l : List ℕ) (m : ℕ) → numbers_in_range l ≡ true → m ≤ last_move → numbers_in_range (record_after l m) ≡ true

-- the squares that the rules of a move name: its source and its destination; in castling the corner and the square passed over; in taking in passing
-- the square of the pawn taken
abbrev pub taken_square : ℕ → ℕ → ℕ
taken_square source dest = square_of (rank source) (file dest)

abbrev pub named : List ℕ → ℕ → ℕ → List ℕ
named squares source dest =
    source
    ∷ dest
    ∷ (cond (castles (man_on squares source) source dest) (corner source dest ∷ passed_over source dest ∷ []) []
    ++ cond (takes_in_passing squares (man_on squares source) source dest) (taken_square source dest ∷ []) [])

-- all other squares are as before ..
abbrev pub OthersStay : Type 0
OthersStay = (squares : List ℕ) (source dest promotion s : ℕ) → among s (named squares source dest) ≡ false
    → man_on (squares_after squares source dest promotion) s ≡ man_on squares s

-- .. and on those named stands what the rule says: for boards of 64 squares, and a source and a destination among them
pub record NamedChange (squares : List ℕ) (source dest promotion : ℕ) : Type 0 where
  pub arrives : man_on (squares_after squares source dest promotion) dest ≡ set_down (man_on squares source) promotion
  pub leaves : (source ≡ dest → ⊥) → man_on (squares_after squares source dest promotion) source ≡ 0
  pub rook_crosses : castles (man_on squares source) source dest ≡ true
      → man_on (squares_after squares source dest promotion) (passed_over source dest) ≡ man_on squares (corner source dest)
  pub corner_empties : castles (man_on squares source) source dest ≡ true → (corner source dest ≡ dest → ⊥)
      → man_on (squares_after squares source dest promotion) (corner source dest) ≡ 0
  pub pawn_goes : takes_in_passing squares (man_on squares source) source dest ≡ true → (taken_square source dest ≡ dest → ⊥)
      → man_on (squares_after squares source dest promotion) (taken_square source dest) ≡ 0

abbrev pub RulesHold : Type 0
RulesHold = (squares : List ℕ) (source dest promotion : ℕ) → length squares ≡ 64 → source < 64 → dest < 64 → NamedChange squares source dest promotion

-- 5, then 6, and a refused call hands its record back
pub record Answered (call : BoardBuilder → ℕ → Stepped) : Type 0 where
  pub out_of_range_fact : (b : BoardBuilder) (m : ℕ) → in_range b ≡ false → call b m ≡ stepped out_of_range b
  pub no_move_lem : (b : BoardBuilder) (m : ℕ) → in_range b ≡ true → last_move < m → call b m ≡ stepped bad_list b
  pub computed : (b : BoardBuilder) (m : ℕ) → in_range b ≡ true → m ≤ last_move → call b m ≡ stepped 0 (board_after b m)

abbrev pub CallIsAnswered : Type 0
CallIsAnswered = Answered after_answer
