-- `one_more` of lib.rt meets its contract: r ≡ one_more n.
use mathlib.Core.Path.{◌≡◌, refl}
use mathlib.Core.Bool.{Bool, true, false, cond}
use Prim.Native.Nat.{ℕ, ◌+◌, min}
use native.Mathlib.Omega.{arith}
use lib.Dec.{ltb}
use borrow.Author.Tests.{ltb-true, ltb-false}
use Rattle.move_rules.specs.After.{one_more}
use Rattle.board_after.proofs.one_more.Goals as goal

by_test : (n r : ℕ) → r ≡ min (min (n + 1) 65535) 9999 → r ≡ cond (ltb n 9999) (n + 1) 9999
by_test n r e = go (ltb n 9999) refl
  where
    go : (t : Bool) → ltb n 9999 ≡ t → r ≡ cond t (n + 1) 9999
    go true f = let h = ltb-true n 9999 f in omega (arith, e, h)
    go false f = let h = ltb-false n 9999 f in omega (arith, e, h)

pub returns : goal.returns
unfolding one_more
returns c = by_test c.args.n c.min.result (rw c.saturating_add.ensures at c.min.ensures)
