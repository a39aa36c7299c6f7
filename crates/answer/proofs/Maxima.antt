-- The largest number of a list, step by step, and what it says about each number: all are at most n exactly if the largest is.
-- Assumes nothing.
use mathlib.Core.Path.{◌≡◌, refl, sym, ap, ◌∙◌}
use mathlib.Core.Bool.{Bool, true, false, ◌&&◌}
use mathlib.Core.List.{List, [], ◌∷◌, ◌++◌}
use Prim.Native.Nat.{ℕ, suc, ◌+◌, ◌≤◌, ◌<◌, max}
use native.Mathlib.Numerals.{add-one}
use native.Mathlib.Omega.{arith}
use lib.Dec.{leb}
use lib.ListN.{length, take, drop, get_or, drop_of_length-le, take-append-drop}
use lib.Seq.{drop-cons, drop-drop}
use borrow.Author.Tests.{le-leb, lt-leb, leb-true, leb-false}
use Rattle.answer.specs.Numbers.{all_at_most, largest}

pub max_assoc : (a b c : ℕ) → max a (max b c) ≡ max (max a b) c
max_assoc a b c = omega arith

max_zero : (a : ℕ) → max a 0 ≡ a
max_zero a = omega arith

-- the start of the loop, an iteration, and its end
pub max_none : (a : ℕ) → max 0 a ≡ a
max_none a = omega arith

pub largest_turn : (s : List ℕ) (m i : ℕ) → i < length s → max m (largest (drop i s)) ≡ max (max m (get_or s i 0)) (largest (drop (i + 1) s))
unfolding largest
largest_turn s m i h = rw (add-one i, drop-cons s i 0 h) (max_assoc m (get_or s i 0) (largest (drop (suc i) s)))

pub largest_end : (s : List ℕ) (m i : ℕ) → length s ≤ i → max m (largest (drop i s)) ≡ m
unfolding largest
largest_end s m i h = rw (drop_of_length-le s h) (max_zero m)

leb_max : (a b n : ℕ) → leb (max a b) n ≡ leb a n && leb b n
leb_max a b n = go (leb a n) (leb b n) refl refl
  where
    go : (p q : Bool) → leb a n ≡ p → leb b n ≡ q → leb (max a b) n ≡ leb a n && leb b n
    go true true e f =
        let h : max a b ≤ n = omega (arith, leb-true a n e, leb-true b n f) in
        simp (e, f) (le-leb _ _ h)
    go true false e f =
        let h : n < max a b = omega (arith, leb-false b n f) in
        simp (e, f) (lt-leb _ _ h)
    go false q e f =
        let h : n < max a b = omega (arith, leb-false a n e) in
        simp e (lt-leb _ _ h)

pub largest_at_most : (n : ℕ) (s : List ℕ) → leb (largest s) n ≡ all_at_most n s
unfolding largest all_at_most
largest_at_most n [] = le-leb 0 n (omega arith)
largest_at_most n (x ∷ s) = leb_max x (largest s) n ∙ ap (λ (t : Bool). leb x n && t) (largest_at_most n s)

-- for two lists one after the other, and for a list taken in parts
pub largest_both : (xs ys : List ℕ) → largest (xs ++ ys) ≡ max (largest xs) (largest ys)
unfolding largest
largest_both [] ys = sym (max_none (largest ys))
largest_both (x ∷ xs) ys = ap (max x) (largest_both xs ys) ∙ max_assoc x (largest xs) (largest ys)

pub largest_part : (s : List ℕ) (m i n : ℕ) → max m (largest (drop i s)) ≡ max (max m (largest (take n (drop i s)))) (largest (drop (i + n) s))
largest_part s m i n =
    ap (λ (l : List ℕ). max m (largest l)) (sym (take-append-drop n (drop i s)))
    ∙ ap (max m) (largest_both (take n (drop i s)) (drop n (drop i s)))
    ∙ max_assoc m (largest (take n (drop i s))) (largest (drop n (drop i s)))
    ∙ ap (λ (l : List ℕ). max (max m (largest (take n (drop i s)))) (largest l)) (drop-drop n i s)
