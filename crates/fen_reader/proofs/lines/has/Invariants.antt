-- `has` of lines.rt meets its contract: r ≡ among b (now block.entry).
use mathlib.Core.Path.{◌≡◌}
use mathlib.Core.Bool.{not, ◌||◌}
use lib.Dec.{eqb}
use lib.ListN.{drop}
use Rattle.answer.specs.Numbers.{among}
use Rattle.fen_reader.proofs.lines.has.Given as goal

abbrev pub invariant-loop-x : goal.invariant-loop-x
invariant-loop-x l = not (eqb l.hit 0) || among l.b (drop l.x-index l.block) ≡ among l.b l.block
