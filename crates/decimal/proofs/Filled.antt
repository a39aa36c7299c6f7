-- The loop of the writer: it fills 20 bytes from the end, one digit per iteration, until one digit is left.
-- Assumes nothing.
use mathlib.Core.Path.{◌≡◌, ap, sym, ◌∙◌}
use mathlib.Core.List.{List, [], ◌∷◌, ◌++◌, append_assoc}
use Prim.Native.Nat.{ℕ, zero, suc, ◌+◌, ◌-◌, ◌/◌, ◌%◌, ◌^◌, ◌≤◌, ◌<◌}
use native.Mathlib.Nat.{pow-suc}
use native.Mathlib.Omega.{arith}
use lib.ListN.{length, take, drop, set, length-drop, length-set}
use lib.Seq.{drop-cons, drop-set-lt, get_or-set_same, lt-length-set, take_all}
use Rattle.decimal.specs.Decimal.{decimal}
use Rattle.decimal.proofs.Digits.{decimal_one, decimal_more}

-- the number is what is left with the digits behind the place `at`, and what is left fits into the bytes up to there
pub record Filled (number : ℕ) (text : List ℕ) (at left : ℕ) : Type 0 where
  pub long : length text ≡ 20
  pub inside : at < 20
  pub fits : left < 10 ^ suc at
  pub behind : decimal number ≡ decimal left ++ drop (suc at) text

-- a digit at the place, and those behind it
drop_stored : (text : List ℕ) (at digit : ℕ) → at < length text → drop at (set text at digit) ≡ digit ∷ drop (suc at) text
drop_stored text at digit h =
    drop-cons (set text at digit) at 0 (lt-length-set text at digit h)
    ∙ rw (get_or-set_same text at digit 0 h, drop-set-lt (suc at) text at digit (omega arith))

pub filled_more : (number : ℕ) (text : List ℕ) (at left : ℕ) → Filled number text at left → 10 ≤ left
    → Filled number (set text at (48 + left % 10)) (at - 1) (left / 10)
filled_more number text zero left f h = absurd (omega (arith, f.fits))
filled_more number text (suc at) left f h =
    let place : suc at - 1 ≡ at = omega arith in
    let digit = 48 + left % 10 in
    let here : suc at < length text = omega (arith, f.long, f.inside) in
    rw place (record {
      long = length-set text (suc at) digit ∙ f.long;
      inside = omega (arith, f.inside);
      fits = omega (arith, f.fits, pow-suc 10 (suc at));
      behind =
          f.behind
          ∙ ap (λ (l : List ℕ). l ++ drop (suc (suc at)) text) (decimal_more left h)
          ∙ append_assoc (decimal (left / 10)) (digit ∷ []) (drop (suc (suc at)) text)
          ∙ ap (λ (l : List ℕ). decimal (left / 10) ++ l) (sym (drop_stored text (suc at) digit here));
    })

-- with the last digit, the bytes from the place to the end are the number's
pub filled_all : (number : ℕ) (text : List ℕ) (at left : ℕ) → Filled number text at left → left < 10
    → take (20 - at) (drop at (set text at (48 + left))) ≡ decimal number
filled_all number text at left f h =
    let all : List ℕ = set text at (48 + left) in
    let few : length (drop at all) ≤ 20 - at = omega (arith, length-drop at all, length-set text at (48 + left), f.long) in
    take_all (20 - at) (drop at all) few
    ∙ drop_stored text at (48 + left) (omega (arith, f.long, f.inside))
    ∙ sym (f.behind ∙ ap (λ (l : List ℕ). l ++ drop (suc at) text) (decimal_one left h))
