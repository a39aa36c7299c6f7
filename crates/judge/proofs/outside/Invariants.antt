-- `outside` of lib.rt meets its contract: what it finds is outside_at (now list.entry) (now moves.entry), less one.
use mathlib.Core.Path.{◌≡◌}
use lib.ListN.{drop}
use Rattle.move_laws.specs.Judge.{outside_at}
use Rattle.judge.proofs.outside.Given as goal

abbrev pub invariant-loop-m : goal.invariant-loop-m
invariant-loop-m l = outside_at l.list l.moves ≡ outside_at l.list (drop l.m-index l.moves)
