-- A bound on all numbers of a list, tested without a branch: by how much each is over it is gathered bit by bit, and nothing is gathered exactly if
-- all are within it.
-- Assumes nothing.
use mathlib.Core.Path.{◌≡◌, refl, ap, sym, ◌∙◌}
use mathlib.Core.Bool.{Bool, true, false, ◌&&◌, and-true, and-false, and_assoc}
use mathlib.Core.List.{List, [], ◌∷◌, ◌++◌}
use Prim.Native.Nat.{ℕ, zero, suc, ◌+◌, ◌-◌, ◌≤◌, zero-le}
use native.Mathlib.Omega.{arith}
use lib.Bits.{bit_or, or_zero_l, or_add_and, and_le_l, and_le_r}
use lib.Dec.{eqb, leb}
use lib.ListN.{get_or, take, drop, take-append-drop}
use lib.Seq.{drop-drop}
use borrow.Author.Tests.{eq-eqb, ne_eqb, eqb-true, eqb-false, leb-true, leb-false}
use Rattle.answer.specs.Numbers.{all_at_most}
use Rattle.answer.proofs.Numbers.{most_head, most_tail, most_drop}

pub or_none : (a b : ℕ) → eqb (bit_or a b) 0 ≡ eqb a 0 && eqb b 0
or_none a b = go (eqb a 0) (eqb b 0) refl refl
  where
    go : (p q : Bool) → eqb a 0 ≡ p → eqb b 0 ≡ q → eqb (bit_or a b) 0 ≡ eqb a 0 && eqb b 0
    go true true e f =
        let h : bit_or a b ≡ 0 = ap (λ (x : ℕ). bit_or x b) (eqb-true a 0 e) ∙ or_zero_l b ∙ eqb-true b 0 f in
        simp (e, f) (eq-eqb _ _ h)
    go true false e f =
        let h : bit_or a b ≡ 0 → ⊥ = λ z. eqb-false b 0 f (omega (arith, or_add_and a b, and_le_l a b)) in
        simp (e, f) (ne_eqb _ _ h)
    go false q e f =
        let h : bit_or a b ≡ 0 → ⊥ = λ z. eqb-false a 0 e (omega (arith, or_add_and a b, and_le_r a b)) in
        simp e (ne_eqb _ _ h)

over_none : (x n : ℕ) → eqb (x - n) 0 ≡ leb x n
over_none x n = go (leb x n) refl
  where
    go : (p : Bool) → leb x n ≡ p → eqb (x - n) 0 ≡ leb x n
    go true e =
        let h : x - n ≡ 0 = omega (arith, leb-true x n e) in
        rw e (eq-eqb _ _ h)
    go false e =
        let h : x - n ≡ 0 → ⊥ = λ z. omega (arith, leb-false x n e) in
        rw e (ne_eqb _ _ h)

-- a number is looked at before the rest
pub gather : (a x n : ℕ) (left : Bool) → eqb (bit_or a (x - n)) 0 && left ≡ eqb a 0 && (leb x n && left)
gather a x n left = rw (or_none a (x - n), over_none x n) (and_assoc (eqb a 0) (leb x n) left)

-- the end of a loop over the list that gathers
pub gather_end : (a : ℕ) (left : Bool) → left ≡ true → eqb a 0 && left ≡ eqb a 0
gather_end a left e = rw e (and-true (eqb a 0))

-- each number of a list is within its bound
pub bound_at : (n : ℕ) (xs : List ℕ) (i : ℕ) → all_at_most n xs ≡ true → get_or xs i 0 ≤ n
bound_at n [] i e = zero-le
bound_at n (x ∷ xs) zero e = most_head n x xs e
bound_at n (x ∷ xs) (suc i) e = bound_at n xs i (most_tail n x xs e)

-- for two lists one after the other, and for a list taken in parts
bound_both : (n : ℕ) (xs ys : List ℕ) → all_at_most n (xs ++ ys) ≡ all_at_most n xs && all_at_most n ys
unfolding all_at_most
bound_both n [] ys = refl
bound_both n (x ∷ xs) ys = ap (λ (t : Bool). leb x n && t) (bound_both n xs ys) ∙ sym (and_assoc (leb x n) (all_at_most n xs) (all_at_most n ys))

pub bound_parts : (n : ℕ) (s : List ℕ) (i m : ℕ) → all_at_most n (drop i s) ≡ all_at_most n (take m (drop i s)) && all_at_most n (drop (i + m) s)
bound_parts n s i m =
    ap (all_at_most n) (sym (take-append-drop m (drop i s)))
    ∙ bound_both n (take m (drop i s)) (drop m (drop i s))
    ∙ ap (λ (l : List ℕ). all_at_most n (take m (drop i s)) && all_at_most n l) (drop-drop m i s)

-- behind a part that is within the bound, it is enough to start looking at any place in that part
pub bound_overlap : (n : ℕ) (s : List ℕ) (i j m : ℕ) → i ≤ j → j ≤ i + m → all_at_most n (take m (drop i s)) ≡ true
    → all_at_most n (drop j s) ≡ all_at_most n (drop i s)
bound_overlap n s i j m h k e = go (all_at_most n (drop j s)) refl
  where
    whole : all_at_most n (drop i s) ≡ all_at_most n (drop (i + m) s)
    whole = bound_parts n s i m ∙ ap (λ (t : Bool). t && all_at_most n (drop (i + m) s)) e

    go : (t : Bool) → all_at_most n (drop j s) ≡ t → t ≡ all_at_most n (drop i s)
    go true f =
        let at : j + (i + m - j) ≡ i + m = omega arith in
        let g : drop (i + m - j) (drop j s) ≡ drop (i + m) s = drop-drop (i + m - j) j s ∙ ap (λ (x : ℕ). drop x s) at in
        sym (whole ∙ ap (all_at_most n) (sym g) ∙ most_drop (i + m - j) n (drop j s) f)
    go false f =
        let g : i + (j - i) ≡ j = omega arith in
        let front = all_at_most n (take (j - i) (drop i s)) in
        sym (bound_parts n s i (j - i)
        ∙ ap (λ (x : ℕ). front && all_at_most n (drop x s)) g
        ∙ ap (λ (t : Bool). front && t) f
        ∙ and-false front)
