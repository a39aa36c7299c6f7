-- Laws of numbers in decimal: a number below ten is one digit, any other is that of its tens with one more digit behind it.
-- Assumes nothing.
use mathlib.Core.Path.{◌≡◌, refl, ap, sym, ◌∙◌}
use mathlib.Core.Bool.{Bool, true, false}
use mathlib.Core.List.{List, [], ◌∷◌, ◌++◌}
use Prim.Native.Nat.{ℕ, zero, suc, ◌+◌, ◌/◌, ◌%◌, ◌^◌, ◌≤◌, ◌<◌}
use native.Mathlib.Nat.{pow-suc}
use native.Mathlib.Omega.{arith}
use lib.Dec.{ltb}
use borrow.Author.Tests.{lt-ltb, le-ltb, ltb-true, ltb-false}
use Rattle.decimal.specs.Decimal.{digits, decimal}

digits_one : (k n : ℕ) → n < 10 → digits (suc k) n ≡ (48 + n) ∷ []
unfolding digits
digits_one k n h = simp (lt-ltb _ _ h)

digits_more : (k n : ℕ) → 10 ≤ n → digits (suc k) n ≡ digits k (n / 10) ++ ((48 + n % 10) ∷ [])
unfolding digits
digits_more k n h = simp (le-ltb _ _ h)

-- any two numbers of digits that are enough give the same text
digits_enough : (j k n : ℕ) → n < 10 ^ suc j → n < 10 ^ suc k → digits (suc j) n ≡ digits (suc k) n
digits_enough zero k n h l = digits_one zero n h ∙ sym (digits_one k n h)
digits_enough (suc j) zero n h l = digits_one (suc j) n l ∙ sym (digits_one zero n l)
digits_enough (suc j) (suc k) n h l = go (ltb n 10) refl (digits_enough j k (n / 10))
  where
    go : (t : Bool) → ltb n 10 ≡ t → (n / 10 < 10 ^ suc j → n / 10 < 10 ^ suc k → digits (suc j) (n / 10) ≡ digits (suc k) (n / 10))
        → digits (suc (suc j)) n ≡ digits (suc (suc k)) n
    go true e rec = digits_one (suc j) n (ltb-true n 10 e) ∙ sym (digits_one (suc k) n (ltb-true n 10 e))
    go false e rec =
        let tens = rec (omega (arith, pow-suc 10 (suc j))) (omega (arith, pow-suc 10 (suc k))) in
        digits_more (suc j) n (ltb-false n 10 e)
        ∙ ap (λ (l : List ℕ). l ++ ((48 + n % 10) ∷ [])) tens
        ∙ sym (digits_more (suc k) n (ltb-false n 10 e))

power_above : (n : ℕ) → n < 10 ^ suc n
power_above zero = omega arith
power_above (suc n) = omega (arith, power_above n, pow-suc 10 (suc n))

pub decimal_in : (k n : ℕ) → n < 10 ^ suc k → decimal n ≡ digits (suc k) n
unfolding decimal
decimal_in k n h = digits_enough n k n (power_above n) h

pub decimal_one : (n : ℕ) → n < 10 → decimal n ≡ (48 + n) ∷ []
unfolding decimal
decimal_one n h = digits_one n n h

pub decimal_more : (n : ℕ) → 10 ≤ n → decimal n ≡ decimal (n / 10) ++ ((48 + n % 10) ∷ [])
unfolding decimal
decimal_more zero h = absurd (omega arith)
decimal_more (suc m) h =
    let few : suc m / 10 < 10 ^ suc m = omega (arith, power_above m) in
    digits_more (suc m) (suc m) h
    ∙ ap (λ (l : List ℕ). l ++ ((48 + suc m % 10) ∷ [])) (sym (decimal_in m (suc m / 10) few))

-- what holds for each digit, and for each number if it holds for its tens, holds for all numbers
module _ (P : ℕ → Type 0) (one : (n : ℕ) → n < 10 → P n) (more : (n : ℕ) → 10 ≤ n → P (n / 10) → P n) where
  below : (k n : ℕ) → n < k → P n
  below zero n h = absurd (omega arith)
  below (suc k) n h = go (ltb n 10) refl (below k (n / 10))
    where
      go : (t : Bool) → ltb n 10 ≡ t → (n / 10 < k → P (n / 10)) → P n
      go true e rec = one n (ltb-true n 10 e)
      go false e rec = let ten = ltb-false n 10 e in more n ten (rec (omega arith))

  pub by_tens : (n : ℕ) → P n
  by_tens n = below (suc n) n (omega arith)
