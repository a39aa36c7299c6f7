-- The reader of coordinate texts as it was before order 3: a number, but not where. It stays so that the new answers can be compared with it.
-- Assumes nothing.
use Rattle.std.specs.Prelude.{ℕ, ◌-◌, Bool, cond, not, ◌&&◌, List, eqb, ltb, length, get_or}
use Rattle.answer.specs.declared.Answer.{Answer}
use Rattle.answer.specs.Answer.{accepted, refused, invalid_square, invalid_uci_move}
use Rattle.answer.specs.Numbers.{between}
use Rattle.square.specs.Square.{square_of}
use Rattle.chess_move.specs.Number.{number_of}
use Rattle.chess_move.specs.Coordinate.{promotion_named}

-- the square that a letter a to h and a digit 1 to 8 name, otherwise 2
abbrev pub base_named : ℕ → ℕ → Answer
base_named a b = cond (between 97 104 a && between 49 56 b) (accepted (square_of (b - 49) (a - 97))) (refused invalid_square)

-- the bytes i and j of a text as a square
abbrev pub pair_at : List ℕ → ℕ → ℕ → Answer
pair_at s i j = base_named (get_or s i 0) (get_or s j 0)

abbrev pub is_refused : Answer → Bool
is_refused a = not (eqb a.number 0)

-- a fifth byte, which must be a promotion's
abbrev pub base_promoted : ℕ → ℕ → ℕ → Answer
base_promoted source dest promotion = cond (eqb promotion 0) (refused invalid_uci_move) (accepted (number_of source dest promotion))

abbrev pub base_ended : List ℕ → ℕ → ℕ → Answer
base_ended s source dest =
    cond (eqb (length s) 5) (base_promoted source dest (promotion_named (get_or s 4 0))) (accepted (number_of source dest 0))

unfoldable pub base_move : List ℕ → Answer
base_move s =
    cond (ltb (length s) 2) (refused invalid_uci_move)
    (cond (is_refused (pair_at s 0 1)) (refused invalid_square)
    (cond (ltb (length s) 4) (refused invalid_uci_move)
    (cond (is_refused (pair_at s 2 3)) (refused invalid_square) (base_ended s (pair_at s 0 1).value (pair_at s 2 3).value))))
