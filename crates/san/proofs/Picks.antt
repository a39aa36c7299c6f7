-- An entry whose fixed bits are what the text wants goes to the text's square without promotion, and its source agrees with the text's file and rank.
-- Assumes nothing.
use Prim.Native.Nat.{ℕ, ◌+◌, ◌*◌, ◌-◌, ◌/◌, ◌%◌, ◌≤◌, ◌<◌}
use mathlib.Core.Path.{◌≡◌, refl, ap, ◌∙◌}
use mathlib.Core.Bool.{Bool, true, false, cond, ◌&&◌}
use native.Mathlib.Omega.{arith}
use lib.Bits.{bit_and, and_zero_r, and_mask, and_high, and_block}
use lib.Dec.{eqb}
use borrow.Author.Tests.{eq-eqb, ne_eqb, eqb-true, eqb-false}
use Rattle.chess_move.specs.Number.{last_move}
use Rattle.san_text.specs.declared.San.{San}
use Rattle.san_text.specs.Place.{given}
use Rattle.san_text.specs.Resolve.{agrees}
use Rattle.san.specs.CodeGathered.{number_if, mask_of, want_of, picked}

-- ---- the fixed bits

low_bits : (s : ℕ) (f r : Bool) → s < 64 → bit_and s (number_if f 7 + number_if r 56) ≡ cond r (s / 8) 0 * 8 + cond f (s % 8) 0
low_bits s false false h = and_zero_r s
low_bits s true false h = and_mask s 3 ∙ omega arith
low_bits s false true h = and_high s 3 3 ∙ omega arith
low_bits s true true h = and_mask s 6 ∙ omega arith

few_bits : (f r : Bool) → number_if f 7 + number_if r 56 < 64
few_bits false false = omega arith
few_bits true false = omega arith
few_bits false true = omega arith
few_bits true true = omega arith

masked : (m : ℕ) (f r : Bool) → m < 65536
    → bit_and m (65472 + number_if f 7 + number_if r 56) ≡ m / 64 * 64 + (cond r (m % 64 / 8) 0 * 8 + cond f (m % 64 % 8) 0)
masked m f r h =
    ap (λ (x : ℕ). bit_and x (65472 + number_if f 7 + number_if r 56)) split
    ∙ ap (λ (x : ℕ). bit_and (m / 64 * 64 + m % 64) x) (joined (number_if f 7) (number_if r 56))
    ∙ and_block 6 (m / 64) 1023 (m % 64) (number_if f 7 + number_if r 56) small (few_bits f r)
    ∙ ap (λ (x : ℕ). x * 64 + bit_and (m % 64) (number_if f 7 + number_if r 56)) high
    ∙ ap (λ (x : ℕ). m / 64 * 64 + x) (low_bits (m % 64) f r small)
  where
    small : m % 64 < 64
    small = omega arith

    split : m ≡ m / 64 * 64 + m % 64
    split = omega arith

    joined : (x y : ℕ) → 65472 + x + y ≡ 1023 * 64 + (x + y)
    joined x y = omega arith

    high : bit_and (m / 64) 1023 ≡ m / 64
    high = and_mask (m / 64) 10 ∙ omega arith

-- ---- compared part by part

digits : (q a b q' a' b' : ℕ) → a < 8 → a' < 8 → b < 8 → b' < 8 → eqb (q * 64 + (b * 8 + a)) (q' * 64 + b' * 8 + a') ≡ eqb q q' && (eqb a a' && eqb b b')
digits q a b q' a' b' ha ha' hb hb' = go (eqb q q') (eqb a a') (eqb b b') refl refl refl
  where
    go : (x y z : Bool) → eqb q q' ≡ x → eqb a a' ≡ y → eqb b b' ≡ z → eqb (q * 64 + (b * 8 + a)) (q' * 64 + b' * 8 + a') ≡ x && (y && z)
    go true true true ex ey ez = eq-eqb (q * 64 + (b * 8 + a)) (q' * 64 + b' * 8 + a') (omega (arith, eqb-true q q' ex, eqb-true a a' ey, eqb-true b b' ez))
    go true true false ex ey ez = ne_eqb (q * 64 + (b * 8 + a)) (q' * 64 + b' * 8 + a') (λ w. eqb-false b b' ez (omega arith))
    go true false z ex ey ez = ne_eqb (q * 64 + (b * 8 + a)) (q' * 64 + b' * 8 + a') (λ w. eqb-false a a' ey (omega arith))
    go false y z ex ey ez = ne_eqb (q * 64 + (b * 8 + a)) (q' * 64 + b' * 8 + a') (λ w. eqb-false q q' ex (omega arith))

agrees_digit : (w x : ℕ) → eqb (cond (given w) x 0) (w - 1) ≡ agrees w (x + 1)
unfolding agrees
agrees_digit w x = go (eqb w 0) refl
  where
    there : (w ≡ 0 → ⊥) → (b : Bool) → eqb x (w - 1) ≡ b → eqb x (w - 1) ≡ eqb w (x + 1)
    there n true e = e ∙ rw (eq-eqb w (x + 1) (omega (arith, eqb-true x (w - 1) e)))
    there n false e = e ∙ rw (ne_eqb w (x + 1) (λ k. eqb-false x (w - 1) e (omega arith)))

    go : (z : Bool) → eqb w 0 ≡ z → eqb (cond (given w) x 0) (w - 1) ≡ agrees w (x + 1)
    go true e = rw (eqb-true w 0 e)
    go false e = rw e (there (eqb-false w 0 e) (eqb x (w - 1)) refl)

place_below : (w : ℕ) → w ≤ 8 → w - 1 < 8
place_below w h = omega arith

digit_below : (b : Bool) (x : ℕ) → x < 8 → cond b x 0 < 8
digit_below true x h = h
digit_below false x h = omega arith

pub picked_is : (t : San) (m : ℕ) → t.file ≤ 8 → t.rank ≤ 8 → m ≤ last_move
    → picked (mask_of t) (want_of t) m ≡ eqb (m / 64) t.dest && (agrees t.file (m % 64 % 8 + 1) && agrees t.rank (m % 64 / 8 + 1))
unfolding picked
picked_is t m hf hr h =
    let file = cond (given t.file) (m % 64 % 8) 0 in
    let rank = cond (given t.rank) (m % 64 / 8) 0 in
    let file-below : file < 8 = digit_below (given t.file) (m % 64 % 8) (omega arith) in
    let rank_below : rank < 8 = digit_below (given t.rank) (m % 64 / 8) (omega arith) in
    ap (λ (x : ℕ). eqb x (want_of t)) (masked m (given t.file) (given t.rank) (omega arith))
    ∙ digits (m / 64) file rank t.dest (t.file - 1) (t.rank - 1) file-below (place_below t.file hf) rank_below (place_below t.rank hr)
    ∙ rw (agrees_digit t.file (m % 64 % 8), agrees_digit t.rank (m % 64 / 8))
