-- Lists of numbers: a bound, equality, and what is in them.
-- Assumes nothing.
use Rattle.std.specs.List.{list_any}
use Rattle.std.specs.declared.cmp.Ordering.{Ordering}
use Rattle.std.specs.Ordering.{partial_gt}
use Rattle.std.specs.Prelude.{ℕ, max, Option, Bool, true, false, ◌&&◌, ◌||◌, List, [], ◌∷◌, eqb, leb, get_or}

-- each number of the list is at most n
unfoldable pub all_at_most : ℕ → List ℕ → Bool
all_at_most n [] = true
all_at_most n (x ∷ xs) = leb x n && all_at_most n xs

-- something in a list compares greater than a bound, by what its type compares with
abbrev pub any_over : {A : Type 0} → (A → A → Option Ordering) → A → List A → Bool
any_over compare most s = list_any (λ x. partial_gt compare x most) s

-- the largest number of a list, 0 of none
unfoldable pub largest : List ℕ → ℕ
largest [] = 0
largest (x ∷ xs) = max x (largest xs)

-- the number at a place, 0 past the end
abbrev pub number_at : List ℕ → ℕ → ℕ
number_at s i = get_or s i 0

-- a number from low to high
abbrev pub between : ℕ → ℕ → ℕ → Bool
between low high b = leb low b && leb b high

-- the two lists are equal
unfoldable pub same : List ℕ → List ℕ → Bool
same [] [] = true
same [] (y ∷ ys) = false
same (x ∷ xs) [] = false
same (x ∷ xs) (y ∷ ys) = eqb x y && same xs ys

-- the number is in the list
unfoldable pub among : ℕ → List ℕ → Bool
among n [] = false
among n (x ∷ xs) = eqb x n || among n xs

-- one of two tests holds, or both do
abbrev pub either : Bool → Bool → Bool
either a b = a || b

abbrev pub both : Bool → Bool → Bool
both a b = a && b
