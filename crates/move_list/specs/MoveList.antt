-- A lent list of moves (document 01, "Answer numbers" 6): at most 255 entries, each at most 28,671. And counting, on which "one entry alone fits" rests.
-- Assumes nothing.
use Rattle.std.specs.Prelude.{ℕ, suc, ◌-◌, Bool, cond, ◌&&◌, List, [], ◌∷◌, leb, length}
use Rattle.answer.specs.Numbers.{all_at_most}
use Rattle.chess_move.specs.Number.{last_move}

-- the most entries of a list
abbrev pub longest_list : ℕ
longest_list = 255

-- by how much a number is over a bound, 0 if it is not
abbrev pub over : ℕ → ℕ → ℕ
over x most = x - most

unfoldable pub list_in_range : List ℕ → Bool
list_in_range moves = leb (length moves) longest_list && all_at_most last_move moves

-- how many entries pass a test, equal ones each counted; and the first of them, or 0
unfoldable pub count : (ℕ → Bool) → List ℕ → ℕ
count f [] = 0
count f (x ∷ xs) = cond (f x) (suc (count f xs)) (count f xs)

unfoldable pub first_of : (ℕ → Bool) → List ℕ → ℕ
first_of f [] = 0
first_of f (x ∷ xs) = cond (f x) x (first_of f xs)
