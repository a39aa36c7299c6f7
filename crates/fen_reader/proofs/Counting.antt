-- A counter's token, byte by byte: digits are read on, any other byte ends it.
-- Assumes nothing.
use mathlib.Core.Path.{◌≡◌}
use mathlib.Core.Bool.{true, false}
use mathlib.Core.List.{List}
use Prim.Native.Nat.{ℕ, ◌+◌, ◌*◌, ◌-◌, ◌^◌, ◌≤◌, ◌<◌}
use native.Mathlib.Nat.{pow-suc}
use native.Mathlib.Numerals.{add-one}
use native.Mathlib.Omega.{arith}
use lib.Dec.{leb, leb→le}
use lib.ListN.{length, get_or, drop, drop_of_length-le}
use lib.Seq.{drop-cons}
use Rattle.std.proofs.lemmas.Bool.{and_parts}
use Rattle.answer.specs.Numbers.{between}
use borrow.Author.Tests.{le-leb, lt-leb, leb-true}
use Rattle.answer.proofs.Below.{below}
use Rattle.fen_text.specs.Full.{no_count, digits_from, counter_of}

module _ (s : List ℕ) (i v : ℕ) where
  pub digits_turn : i < length s → between 48 57 (get_or s i 0) ≡ true
      → digits_from v (drop i s) ≡ digits_from (v * 10 + (get_or s i 0 - 48)) (drop (i + 1) s)
  unfolding digits_from
  digits_turn h e = simp (add-one, drop-cons s i 0 h, e)

  pub digits_other : i < length s → between 48 57 (get_or s i 0) ≡ false → digits_from v (drop i s) ≡ no_count
  unfolding digits_from
  digits_other h e = simp (drop-cons s i 0 h, e)

  pub digits_end : length s ≤ i → digits_from v (drop i s) ≡ v
  unfolding digits_from
  digits_end h = simp (drop_of_length-le s h)

pub digit_most : (b : ℕ) → between 48 57 b ≡ true → b - 48 ≤ 9
digit_most b e = omega (arith, leb-true b 57 (and_parts (leb 48 b) (leb b 57) e).1)

pub counter_fits : (s : List ℕ) → 1 ≤ length s → length s ≤ 4 → counter_of s ≡ digits_from 0 s
unfolding counter_of
counter_fits s low high = simp (le-leb _ _ low, le-leb _ _ high)

pub counter_empty : (s : List ℕ) → length s ≡ 0 → counter_of s ≡ no_count
unfolding counter_of
counter_empty s e = simp e

pub counter_long : (s : List ℕ) → 4 < length s → counter_of s ≡ no_count
unfolding counter_of
counter_long s h =
    let some : 1 ≤ length s = omega arith in
    simp (le-leb _ _ some, lt-leb _ _ h)

-- i digits say less than ten to the i, and four of them at most 9,999
pub digits_small : (v d i : ℕ) → v < 10 ^ i → d ≤ 9 → v * 10 + d < 10 ^ (i + 1)
digits_small v d i h l = rw (add-one i, pow-suc 10 i) (omega arith)

pub four_small : (v i : ℕ) → v < 10 ^ i → i ≤ 4 → v ≤ 9999
four_small v i h l = omega (arith, leb→le (10 ^ i) 10000 (below (λ (k : ℕ). leb (10 ^ k) 10000) 5 tt i (omega arith)))
