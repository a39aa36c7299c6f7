-- What is promised about moves and their coordinate texts, each as a statement that can be read by itself.
-- Assumes nothing.
use Rattle.std.specs.Prelude.{ℕ, ◌≤◌, ◌≡◌, Bool, cond, ◌||◌, List, eqb, length, take}
use Rattle.answer.specs.declared.Placed.{Placed}
use Rattle.answer.specs.Promises.{ItsText}
use Rattle.answer.specs.Answer.{accepted, read_as, fault_at, invalid_uci_move, write_answer, write_bytes}
use Rattle.answer.specs.Numbers.{between}
use Rattle.chess_move.specs.declared.ChessMove.{ChessMove}
use Rattle.chess_move.specs.Number.{last_move, promotion_of, move_of, number_answer}
use Rattle.chess_move.specs.Coordinate.{read_move, move_text, move_check}

-- a number is that of its three parts, and a move in range has its parts back
abbrev pub NumberOfParts : Type 0
NumberOfParts = (n : ℕ) → n ≤ last_move → number_answer (move_of n) ≡ accepted n

abbrev pub PartsOfNumber : Type 0
PartsOfNumber = (m : ChessMove) → (number_answer m).number ≡ 0 → ((number_answer m).value ≤ last_move) × (move_of (number_answer m).value ≡ m)

-- none, knight, bishop, rook or queen
abbrev pub readable : ℕ → Bool
readable promotion = eqb promotion 0 || between 2 5 promotion

-- any reader of coordinate texts
abbrev pub Reader : Type 0
Reader = List ℕ → Placed

-- demand 2 of such a reader: it answers as the definition does
abbrev pub ReadsMoves : Reader → Type 0
ReadsMoves read = (text : List ℕ) → read text ≡ read_move text

-- and the read-back: a written move with promotion none, knight, bishop, rook or queen reads back to itself, and every other promotion is refused
-- with 3 at its letter, over the answers and the room of the writer's call
pub record MoveBackAgain (read : Reader) (n : ℕ) (out : List ℕ) : Type 0 where
  pub accepts : (write_answer (move_check n) (move_text n) (length out)).number ≡ 0
  pub back : read (take (write_answer (move_check n) (move_text n) (length out)).value (write_bytes (move_check n) (move_text n) out))
      ≡ cond (readable (promotion_of n)) (read_as n) (fault_at invalid_uci_move 4)

abbrev pub ReadsMovesBack : Reader → Type 0
ReadsMovesBack read = (n : ℕ) (out : List ℕ) → n ≤ last_move → 5 ≤ length out → MoveBackAgain read n out

-- kept by ours
abbrev pub MovesReadBack : Type 0
MovesReadBack = ReadsMovesBack read_move

-- a reader that always refuses keeps neither
pub record Fails (read : Reader) : Type 0 where
  pub to_read : ReadsMoves read → ⊥
  pub to_read_back : ReadsMovesBack read → ⊥

abbrev pub RefusingReaderFails : Type 0
RefusingReaderFails = (read : Reader) → ((text : List ℕ) → (read text).number ≡ 0 → ⊥) → Fails read

-- for each move, the promise that crate answer makes for any writer: the lengths told are those of its text
abbrev pub MoveTellsItsLength : Type 0
MoveTellsItsLength = (n : ℕ) → ItsText (move_text n) (write_answer (move_check n) (move_text n)) (write_bytes (move_check n) (move_text n))
