-- Laws of tests that are joined, and of lists of numbers with a bound: head, tail, parts, stores, and a loop over the list.
-- Assumes nothing.
use mathlib.Core.Path.{◌≡◌, refl}
use mathlib.Core.Bool.{Bool, true, false, ◌&&◌, ◌||◌, true≢false, false≢true}
use mathlib.Core.List.{List, [], ◌∷◌}
use Prim.Native.Nat.{ℕ, zero, suc, ◌+◌, ◌≤◌, ◌<◌}
use native.Mathlib.Numerals.{add-one}
use lib.Dec.{leb}
use lib.ListN.{length, get_or, take, drop, set}
use lib.Seq.{drop-cons}
use borrow.Author.Tests.{leb-true, le-leb, lt-leb}
use Rattle.answer.specs.Numbers.{all_at_most}

pub both_left : (a b : Bool) → a && b ≡ true → a ≡ true
both_left true b e = refl
both_left false b e = e

pub both_right : (a b : Bool) → a && b ≡ true → b ≡ true
both_right true b e = e
both_right false b e = absurd (false≢true e)

pub or_left : (a b : Bool) → a || b ≡ false → a ≡ false
or_left true b e = e
or_left false b e = refl

pub or_right : (a b : Bool) → a || b ≡ false → b ≡ false
or_right true b e = absurd (true≢false e)
or_right false b e = e

-- the first number is at most n, and so are the rest
pub most_head : (n x : ℕ) (xs : List ℕ) → all_at_most n (x ∷ xs) ≡ true → x ≤ n
unfolding all_at_most
most_head n x xs e = leb-true x n (both_left (leb x n) (all_at_most n xs) e)

pub most_tail : (n x : ℕ) (xs : List ℕ) → all_at_most n (x ∷ xs) ≡ true → all_at_most n xs ≡ true
unfolding all_at_most
most_tail n x xs e = both_right (leb x n) (all_at_most n xs) e

pub most_cons : (n x : ℕ) (xs : List ℕ) → x ≤ n → all_at_most n xs ≡ true → all_at_most n (x ∷ xs) ≡ true
unfolding all_at_most
most_cons n x xs h e = simp (le-leb _ _ h) e

-- a list is within a bound if each place of it is
pub most_each : (n : ℕ) (xs : List ℕ) → ((i : ℕ) → get_or xs i 0 ≤ n) → all_at_most n xs ≡ true
unfolding all_at_most
most_each n [] h = refl
most_each n (x ∷ xs) h = most_cons n x xs (h 0) (most_each n xs (λ i. h (suc i)))

-- so are those of a part, and after a store
pub most_drop : (m n : ℕ) (xs : List ℕ) → all_at_most n xs ≡ true → all_at_most n (drop m xs) ≡ true
most_drop zero n xs e = e
most_drop (suc m) n [] e = e
most_drop (suc m) n (x ∷ xs) e = most_drop m n xs (most_tail n x xs e)

pub most_take : (m n : ℕ) (xs : List ℕ) → all_at_most n xs ≡ true → all_at_most n (take m xs) ≡ true
unfolding all_at_most
most_take zero n xs e = refl
most_take (suc m) n [] e = e
most_take (suc m) n (x ∷ xs) e = most_cons n x (take m xs) (most_head n x xs e) (most_take m n xs (most_tail n x xs e))

pub most_set : (n : ℕ) (xs : List ℕ) (i v : ℕ) → v ≤ n → all_at_most n xs ≡ true → all_at_most n (set xs i v) ≡ true
most_set n [] i v h e = e
most_set n (x ∷ xs) zero v h e = most_cons n v xs h (most_tail n x xs e)
most_set n (x ∷ xs) (suc i) v h e = most_cons n x (set xs i v) (most_head n x xs e) (most_set n xs i v h (most_tail n x xs e))

-- an iteration of a loop over the list, its early end, and its end
pub most_turn : (n : ℕ) (s : List ℕ) (i : ℕ) → i < length s → get_or s i 0 ≤ n → all_at_most n (drop i s) ≡ all_at_most n (drop (i + 1) s)
unfolding all_at_most
most_turn n s i h k = rw (add-one i, drop-cons s i 0 h) (simp (le-leb _ _ k))

pub most_over : (n : ℕ) (s : List ℕ) (i : ℕ) → i < length s → n < get_or s i 0 → all_at_most n (drop i s) ≡ false
unfolding all_at_most
most_over n s i h k = rw (drop-cons s i 0 h) (simp (lt-leb _ _ k))
