-- How often a number stands in a list: at most once where the numbers rise; and whether it stands there at all.
-- Assumes nothing.
use Prim.Native.Nat.{ℕ, zero, suc, ◌≤◌, ◌<◌}
use mathlib.Core.Path.{◌≡◌, refl, sym, ap, ◌∙◌}
use mathlib.Core.Bool.{Bool, true, false, cond, false≢true}
use mathlib.Core.List.{List, [], ◌∷◌}
use native.Mathlib.Omega.{arith}
use lib.Dec.{eqb, ltb}
use borrow.Author.Tests.{eq-eqb, eqb-true, ltb-true}
use Rattle.answer.specs.Numbers.{among}
use Rattle.answer.proofs.Numbers.{both_left, both_right}
use Rattle.move_list.specs.MoveList.{count, first_of}
use Rattle.move_list.proofs.Counting.{count_listed, first_passes, first_listed}
use Rattle.move_laws.specs.Legal.{legal_moves}
use Rattle.move_laws.specs.Promises.{rises_from, rises}
use Rattle.move_laws.proofs.Listed.{list_rises}
use Rattle.san_lists.specs.Lists.{occurrences}
use Rattle.legal_lists.specs.Promises.{EachOnce}

-- ---- there, or not

pub there : (n : ℕ) (l : List ℕ) → among n l ≡ true → 1 ≤ occurrences n l
there n l e = count_listed (λ (x : ℕ). eqb x n) n (eq-eqb n n refl) l e

pub listed : (n : ℕ) (l : List ℕ) → 1 ≤ occurrences n l → among n l ≡ true
listed n l h =
    let f : ℕ → Bool = λ (x : ℕ). eqb x n in
    ap (λ (x : ℕ). among x l) (sym (eqb-true (first_of f l) n (first_passes f l h))) ∙ first_listed f l h

pub not_there : (n : ℕ) (l : List ℕ) → among n l ≡ false → occurrences n l ≡ 0
not_there n l e = go (occurrences n l) refl
  where
    go : (k : ℕ) → occurrences n l ≡ k → k ≡ 0
    go zero q = refl
    go (suc k) q = absurd (false≢true (sym e ∙ listed n l (omega (arith, q))))

-- ---- at most once, where the numbers rise

pub under_none : (n k : ℕ) (l : List ℕ) → n ≤ k → rises_from k l ≡ true → occurrences n l ≡ 0
unfolding rises_from count
under_none n k [] h e = refl
under_none n k (x ∷ xs) h e = go (under_none n x xs) (eqb x n) refl
  where
    low : k < x
    low = ltb-true k x (both_left (ltb k x) (rises_from x xs) e)

    go : (n ≤ x → rises_from x xs ≡ true → occurrences n xs ≡ 0) → (b : Bool) → eqb x n ≡ b → cond b (suc (occurrences n xs)) (occurrences n xs) ≡ 0
    go ih true q = absurd (omega (arith, eqb-true x n q, low, h))
    go ih false q = ih (omega (arith, h, low)) (both_right (ltb k x) (rises_from x xs) e)

from_once : (n k : ℕ) (l : List ℕ) → rises_from k l ≡ true → occurrences n l ≤ 1
unfolding rises_from count
from_once n k [] e = omega arith
from_once n k (x ∷ xs) e = go (from_once n x xs) (eqb x n) refl
  where
    on : rises_from x xs ≡ true
    on = both_right (ltb k x) (rises_from x xs) e

    go : (rises_from x xs ≡ true → occurrences n xs ≤ 1) → (b : Bool) → eqb x n ≡ b → cond b (suc (occurrences n xs)) (occurrences n xs) ≤ 1
    go ih true q = let z = under_none n x xs (omega (arith, eqb-true x n q)) on in omega (arith, z)
    go ih false q = ih on

once : (n : ℕ) (l : List ℕ) → rises l ≡ true → occurrences n l ≤ 1
unfolding rises count
once n [] e = omega arith
once n (x ∷ xs) e = go (eqb x n) refl
  where
    go : (b : Bool) → eqb x n ≡ b → cond b (suc (occurrences n xs)) (occurrences n xs) ≤ 1
    go true q = let z = under_none n x xs (omega (arith, eqb-true x n q)) e in omega (arith, z)
    go false q = from_once n x xs e

pub each_once : EachOnce
each_once b m = once m (legal_moves b) (list_rises b)
