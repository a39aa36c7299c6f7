-- `decimal::to_string` meets its contract. The invariant: behind its place stand the digits that were taken off; the one that is left completes the text.
-- Assumes nothing.
use Rattle.decimal.proofs.Filled.{Filled}
use Rattle.decimal.proofs.to_string.Given as goal

abbrev pub invariant-loop-left : goal.invariant-loop-left
invariant-loop-left l = Filled l.number l.text l.at l.left

abbrev pub decreases-loop-left : goal.decreases-loop-left
decreases-loop-left l = l.left
