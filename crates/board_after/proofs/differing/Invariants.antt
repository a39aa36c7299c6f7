-- `differing` of lib.rt meets its contract: r ≡ differing (now a.entry) (now b.entry).
use mathlib.Core.Path.{◌≡◌}
use Prim.Native.Nat.{◌+◌, ◌≤◌}
use lib.ListN.{drop}
use Rattle.board_after.specs.CodeDiffer.{differing}
use Rattle.board_after.proofs.differing.Given as goal

abbrev pub invariant-loop-i : goal.invariant-loop-i
invariant-loop-i l = record { most : l.count ≤ l.i; counted : l.count + differing (drop l.i l.a) (drop l.i l.b) ≡ differing l.a l.b }
