-- What the reader of coordinate texts reads is in range: a named promotion is at most 5.
-- Assumes nothing.
use mathlib.Core.Bool.{Bool, true, false, cond}
use Prim.Native.Nat.{ℕ, ◌≤◌}
use native.Mathlib.Omega.{arith}
use lib.Dec.{eqb}
use Rattle.chess_move.specs.Coordinate.{promotion_named}

pub promotion_named_most : (b : ℕ) → promotion_named b ≤ 5
unfolding promotion_named
promotion_named_most b = go (eqb b 113) (eqb b 114) (eqb b 110) (eqb b 98)
  where
    go : (q r n k : Bool) → cond q 5 (cond r 4 (cond n 2 (cond k 3 0))) ≤ 5
    go true r n k = omega arith
    go false true n k = omega arith
    go false false true k = omega arith
    go false false false true = omega arith
    go false false false false = omega arith
