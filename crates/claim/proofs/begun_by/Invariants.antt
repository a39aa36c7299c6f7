-- `claim::begun_by` meets its contract. The invariant: k counts the moves before action i, the actions from i on leave what is before them to decide, and
-- the position after them has the rights of the last one.
-- Assumes nothing.
use mathlib.Core.Path.{◌≡◌}
use mathlib.Core.Bool.{false}
use Prim.Native.Nat.{◌≤◌}
use Rattle.actions.specs.Part.{moves_in}
use Rattle.position.specs.Layout.{position_of, position_at}
use Rattle.claim.specs.Emptying.{rights_differ}
use Rattle.claim.specs.CodeBack.{begun_by}
use Rattle.claim.proofs.begun_by.Given as goal

abbrev pub invariant-loop-i : goal.invariant-loop-i
invariant-loop-i l =
    (l.k ≡ moves_in l.acts l.i) × (begun_by l.acts l.ps l.i ≡ begun_by l.acts l.ps l.n) × (rights_differ (position_at l.ps l.k) (position_of l.last) ≡ false)
    × (l.i ≤ l.n)
