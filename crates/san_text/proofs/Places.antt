-- The places that bytes stand for: how large they are, and that a byte of a place has it.
-- Assumes nothing.
use Prim.Native.Nat.{ℕ, ◌+◌, ◌*◌, ◌-◌, ◌≤◌, ◌<◌}
use mathlib.Core.Path.{◌≡◌, refl}
use mathlib.Core.Bool.{Bool, true, false, cond}
use native.Mathlib.Omega.{arith}
use lib.Dec.{eqb, leb}
use borrow.Author.Tests.{ne_eqb, le-leb, leb-true}
use Rattle.san_text.specs.Place.{place_from, square_at}

pub place_most : (base b : ℕ) → place_from base b ≤ 8
unfolding place_from
place_most base b = go (leb (b - base) 8) refl
  where
    go : (t : Bool) → leb (b - base) 8 ≡ t → cond t (b - base) 0 ≤ 8
    go true e = leb-true (b - base) 8 e
    go false e = omega arith

-- the byte of a place has that place
pub place_of_byte : (base k : ℕ) → k ≤ 8 → place_from base (base + k) ≡ k
unfolding place_from
place_of_byte base k h =
    let d : base + k - base ≡ k = omega arith in
    rw (d, le-leb k 8 h)

pub square_most : (file rank : ℕ) → file ≤ 8 → rank ≤ 8 → square_at file rank ≤ 64
unfolding square_at
square_most file rank hf hr = go (eqb file 0) (eqb rank 0)
  where
    go : (s t : Bool) → cond s 0 (cond t 0 ((rank - 1) * 8 + file)) ≤ 64
    go true t = omega arith
    go false true = omega arith
    go false false = omega arith

-- a byte before the first has no place
pub place_before : (base b : ℕ) → b < base → place_from base b ≡ 0
unfolding place_from
place_before base b h =
    let z : b - base ≡ 0 = omega arith in
    rw z

-- the square of two places that are there
pub square_of_places : (file rank : ℕ) → square_at (file + 1) (rank + 1) ≡ rank * 8 + file + 1
unfolding square_at
square_of_places file rank = rw (ne_eqb (file + 1) 0 (omega arith), ne_eqb (rank + 1) 0 (omega arith)) (omega arith)
