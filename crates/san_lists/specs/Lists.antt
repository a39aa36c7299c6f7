-- Two lists of moves, compared by how often each number stands in them (document 02, order 13).
-- Assumes nothing.
use Rattle.std.specs.Prelude.{ℕ, ◌≤◌, ◌≡◌, List, eqb}
use Rattle.move_list.specs.MoveList.{count}

-- how often a number stands in a list
abbrev pub occurrences : ℕ → List ℕ → ℕ
occurrences n l = count (λ (x : ℕ). eqb x n) l

-- the same entries, each as often
abbrev pub Reordered : List ℕ → List ℕ → Type 0
Reordered l k = (n : ℕ) → occurrences n l ≡ occurrences n k

-- only entries of the second list, none more often
abbrev pub Within : List ℕ → List ℕ → Type 0
Within l k = (n : ℕ) → occurrences n l ≤ occurrences n k
