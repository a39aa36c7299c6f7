-- Laws of `same`: what it says about two lists, and a loop over both.
-- Assumes nothing.
use mathlib.Core.Path.{◌≡◌, refl, ap, ap₂, ◌∙◌}
use mathlib.Core.Bool.{Bool, true, false, false≢true, ◌&&◌, and-true, and_assoc}
use mathlib.Core.List.{List, [], ◌∷◌}
use Prim.Native.Nat.{ℕ, suc, ◌+◌, ◌≤◌, ◌<◌}
use native.Mathlib.Numerals.{add-one}
use native.Mathlib.Omega.{arith}
use lib.Bits.{bit_or, bit_xor, xor_self, xor_add_and, and_le_l, and_le_r}
use lib.Dec.{eqb}
use lib.ListN.{length, get_or, drop, drop_of_length-le}
use lib.Seq.{drop-cons}
use borrow.Author.Tests.{eq-eqb, ne_eqb, eqb-true, eqb-false}
use Rattle.answer.specs.Numbers.{same}
use Rattle.answer.proofs.Bounds.{or_none}
use Rattle.answer.proofs.Numbers.{both_left, both_right}

-- it holds of equal lists, and of no others
pub same_refl : (l : List ℕ) → same l l ≡ true
unfolding same
same_refl [] = refl
same_refl (a ∷ l) = rw (eq-eqb a a refl, same_refl l)

pub same_eq : (l m : List ℕ) → same l m ≡ true → l ≡ m
unfolding same
same_eq [] [] e = refl
same_eq [] (b ∷ m) e = absurd (false≢true e)
same_eq (a ∷ l) [] e = absurd (false≢true e)
same_eq (a ∷ l) (b ∷ m) e = ap₂ ◌∷◌ (eqb-true a b (both_left (eqb a b) (same l m) e)) (same_eq l m (both_right (eqb a b) (same l m) e))

-- lists of two lengths differ
pub same_lengths : (l m : List ℕ) → (length l ≡ length m → ⊥) → same l m ≡ false
same_lengths l m n = go (same l m) refl
  where
    go : (t : Bool) → same l m ≡ t → t ≡ false
    go true e = absurd (n (ap length (same_eq l m e)))
    go false e = refl

-- two numbers differ in no bit exactly if they are equal
xor_none : (x y : ℕ) → eqb (bit_xor x y) 0 ≡ eqb x y
xor_none x y = go (eqb x y) refl
  where
    go : (t : Bool) → eqb x y ≡ t → eqb (bit_xor x y) 0 ≡ eqb x y
    go true e =
        let same : bit_xor x y ≡ 0 = ap (λ (z : ℕ). bit_xor z y) (eqb-true x y e) ∙ xor_self y in
        rw e (eq-eqb _ _ same)
    go false e =
        let other : bit_xor x y ≡ 0 → ⊥ = λ z. eqb-false x y e (omega (arith, xor_add_and x y, and_le_l x y, and_le_r x y)) in
        rw e (ne_eqb _ _ other)

-- an iteration of a loop over both lists that gathers where they differ, and its end
module _ (l m : List ℕ) (d i : ℕ) where
  pub same_turn : i < length l → i < length m
      → eqb (bit_or d (bit_xor (get_or l i 0) (get_or m i 0))) 0 && same (drop (i + 1) l) (drop (i + 1) m) ≡ eqb d 0 && same (drop i l) (drop i m)
  unfolding same
  same_turn h k =
      rw (add-one i, drop-cons l i 0 h, drop-cons m i 0 k, or_none d (bit_xor (get_or l i 0) (get_or m i 0)), xor_none (get_or l i 0) (get_or m i 0))
      (and_assoc (eqb d 0) (eqb (get_or l i 0) (get_or m i 0)) (same (drop (suc i) l) (drop (suc i) m)))

  pub same_end : length l ≤ i → length m ≤ i → eqb d 0 && same (drop i l) (drop i m) ≡ eqb d 0
  unfolding same
  same_end h k = rw (drop_of_length-le l h, drop_of_length-le m k) (and-true (eqb d 0))
