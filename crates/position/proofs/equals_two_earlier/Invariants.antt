-- `equals_two_earlier` of lib.rt meets its contract: r ≡ equals_two_earlier (now ps.entry) first last.
use mathlib.Core.Path.{◌≡◌}
use mathlib.Core.Bool.{false}
use Prim.Native.Nat.{◌≤◌}
use Rattle.position.specs.Layout.{position_at}
use Rattle.position.proofs.Repeats.{earlier}
use Rattle.position.proofs.equals_two_earlier.Given as goal

abbrev pub invariant-loop-j : goal.invariant-loop-j
invariant-loop-j l = (l.found ≡ false) × (earlier l.ps (position_at l.ps l.last) l.first l.j ≡ 0)

abbrev pub invariant-pairs : goal.invariant-pairs
invariant-pairs l = (l.found ≡ false) × (earlier l.ps (position_at l.ps l.last) l.first l.i ≤ 1)
