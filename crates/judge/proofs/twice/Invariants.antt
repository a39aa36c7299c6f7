-- `twice` of lib.rt meets its contract: what it finds is twice_at (now list.entry), less one.
use mathlib.Core.Path.{◌≡◌}
use lib.ListN.{drop}
use Rattle.move_laws.specs.Judge.{twice_at}
use Rattle.judge.proofs.twice.Given as goal

abbrev pub invariant-loop-i : goal.invariant-loop-i
invariant-loop-i l = twice_at l.list ≡ twice_at (drop l.i l.list)
