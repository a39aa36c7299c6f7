-- `largest` of lib.rt meets its contract: r ≡ largest (now s.entry).
use mathlib.Core.Path.{◌≡◌}
use Prim.Native.Nat.{max}
use lib.ListN.{drop}
use Rattle.answer.specs.Numbers.{largest}
use Rattle.board_builder.proofs.largest.Given as goal

abbrev pub invariant-loop-x : goal.invariant-loop-x
invariant-loop-x l = max l.most (largest (drop l.x-index l.s)) ≡ largest l.s
