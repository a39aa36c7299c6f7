-- `is_listed` of lib.rt meets its contract: r ≡ among m (now moves.entry).
use mathlib.Core.Path.{◌≡◌}
use lib.ListN.{drop}
use Rattle.answer.specs.Numbers.{among}
use Rattle.move_list.proofs.is_listed.Given as goal

abbrev pub invariant-loop-x : goal.invariant-loop-x
invariant-loop-x l = among l.m l.moves ≡ among l.m (drop l.x-index l.moves)
