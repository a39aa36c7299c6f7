-- How two squares of the board lie to each other: on a file, a rank, a diagonal, a knight's move apart, side by side; and what is between them.
-- Assumes nothing.
use Rattle.std.specs.Prelude.{ℕ, zero, suc, ◌+◌, ◌-◌, ◌/◌, Bool, true, false, cond, not, ◌&&◌, ◌||◌, List, eqb, ltb}
use Rattle.square.specs.Piece.{man_on}
use Rattle.move_rules.specs.After.{rank, file}

-- how far two numbers are from each other
unfoldable pub apart : ℕ → ℕ → ℕ
apart a b = cond (ltb a b) (b - a) (a - b)

unfoldable pub files_apart : ℕ → ℕ → ℕ
files_apart s t = apart (file s) (file t)

unfoldable pub ranks_apart : ℕ → ℕ → ℕ
ranks_apart s t = apart (rank s) (rank t)

-- how many steps of a king it is from one square to the other
unfoldable pub distance : ℕ → ℕ → ℕ
distance s t = cond (ltb (files_apart s t) (ranks_apart s t)) (ranks_apart s t) (files_apart s t)

-- 3.3 "along the file or the rank", and not where one stands
unfoldable pub file_or_rank : ℕ → ℕ → Bool
file_or_rank s t = not (eqb s t) && (eqb (files_apart s t) 0 || eqb (ranks_apart s t) 0)

-- 3.2 "along a diagonal"
unfoldable pub diagonal : ℕ → ℕ → Bool
diagonal s t = not (eqb s t) && eqb (files_apart s t) (ranks_apart s t)

-- 3.6 "one of the squares nearest to that on which it stands but not on the same rank, file or diagonal"
unfoldable pub knights_move : ℕ → ℕ → Bool
knights_move s t = (eqb (files_apart s t) 1 && eqb (ranks_apart s t) 2) || (eqb (files_apart s t) 2 && eqb (ranks_apart s t) 1)

-- 3.8.1 "an adjoining square"
unfoldable pub adjoining : ℕ → ℕ → Bool
adjoining s t = eqb (distance s t) 1

-- the lower and the higher of two squares, and how far it is from each square to the next on the line between them
unfoldable pub lower : ℕ → ℕ → ℕ
lower s t = cond (ltb s t) s t

unfoldable pub upper : ℕ → ℕ → ℕ
upper s t = cond (ltb s t) t s

unfoldable pub line_step : ℕ → ℕ → ℕ
line_step s t = (upper s t - lower s t) / distance s t

-- the first n squares from a square on, step by step and below an end, are empty
unfoldable pub empty_up_to : List ℕ → ℕ → ℕ → ℕ → ℕ → Bool
empty_up_to squares stop step zero at = true
empty_up_to squares stop step (suc n) at =
    cond (ltb at stop) (cond (eqb (man_on squares at) 0) (empty_up_to squares stop step n (at + step)) false) true

-- 3.5 "may not move over any intervening pieces": the squares between two squares of a line, six at most, are empty
unfoldable pub clear : List ℕ → ℕ → ℕ → Bool
clear squares s t = empty_up_to squares (upper s t) (line_step s t) 6 (lower s t + line_step s t)
