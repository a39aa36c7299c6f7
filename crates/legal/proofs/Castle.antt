-- Laws of castling: the corner of a rank is on the board, and it is not the king's home.
-- Assumes nothing.
use mathlib.Core.Path.{◌≡◌}
use mathlib.Core.Bool.{Bool, true, false, cond}
use Prim.Native.Nat.{ℕ, ◌+◌, ◌*◌, ◌/◌, ◌<◌}
use native.Mathlib.Omega.{arith}
use lib.Dec.{ltb}
use Rattle.move_rules.specs.After.{corner}

pub corner_under : (s t : ℕ) → s < 64 → corner s t < 64
unfolding corner
corner_under s t h = go (ltb s t)
  where
    go : (u : Bool) → s / 8 * 8 + cond u 7 0 < 64
    go true = omega (arith, h)
    go false = omega (arith, h)

pub home_corner : (side s t : ℕ) → side < 2 → s ≡ 4 + 56 * side → s ≡ corner s t → ⊥
unfolding corner
home_corner side s t h e = go (ltb s t)
  where
    go : (u : Bool) → s ≡ s / 8 * 8 + cond u 7 0 → ⊥
    go true q = omega (arith, h, e, q)
    go false q = omega (arith, h, e, q)
