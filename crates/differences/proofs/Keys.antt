-- The key of a start number, by its place, as the code tells the places apart.
-- Assumes nothing.
use mathlib.Core.Path.{◌≡◌, refl}
use mathlib.Core.List.{List, [], ◌∷◌}
use Prim.Native.Nat.{ℕ, ◌+◌, ◌≤◌, ◌<◌}
use native.Mathlib.Omega.{arith}
use lib.ListN.{length}
use borrow.Author.Tests.{lt-ltb, le-ltb, ne_eqb}
use Rattle.answer.specs.Ascii.{ascii}
use Rattle.decimal.specs.Decimal.{decimal}
use Rattle.differences_text.specs.Differences.{start_key}

pub key_square : (i : ℕ) → i < 64 → start_key i ≡ decimal i
unfolding start_key
key_square i h = simp (lt-ltb _ _ h)

pub key_side : (i : ℕ) → i ≡ 64 → start_key i ≡ 115 ∷ 105 ∷ 100 ∷ 101 ∷ []
unfolding start_key ascii
key_side i e = rw e refl

pub key_white : (i : ℕ) → i ≡ 65 → start_key i ≡ 119 ∷ 104 ∷ 105 ∷ 116 ∷ 101 ∷ []
unfolding start_key ascii
key_white i e = rw e refl

pub key_black : (i : ℕ) → i ≡ 66 → start_key i ≡ 98 ∷ 108 ∷ 97 ∷ 99 ∷ 107 ∷ []
unfolding start_key ascii
key_black i e = rw e refl

pub key_file : (i : ℕ) → i ≡ 67 → start_key i ≡ 101 ∷ 112 ∷ []
unfolding start_key ascii
key_file i e = rw e refl

pub key_half : (i : ℕ) → i ≡ 68 → start_key i ≡ 104 ∷ 97 ∷ 108 ∷ 102 ∷ []
unfolding start_key ascii
key_half i e = rw e refl

pub key_full : (i : ℕ) → 69 ≤ i → start_key i ≡ 102 ∷ 117 ∷ 108 ∷ 108 ∷ []
unfolding start_key ascii
key_full i h =
    simp (
      le-ltb i 64 (omega arith),
      ne_eqb i 64 (λ z. omega arith),
      ne_eqb i 65 (λ z. omega arith),
      ne_eqb i 66 (λ z. omega arith),
      ne_eqb i 67 (λ z. omega arith),
      ne_eqb i 68 (λ z. omega arith),
    )

-- a text that there is space for, in other words
pub fits_as : {p q : List ℕ} (n l : ℕ) → p ≡ q → n + length p ≤ l → n + length q ≤ l
fits_as n l e h = rw e at h
