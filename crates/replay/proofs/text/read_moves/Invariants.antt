-- `read_moves` of text.rt meets its contract.
use Rattle.std.proofs.Common.{◌≤◌, length}
use Rattle.replay.proofs.text.read_moves.Given as goal

abbrev pub invariant-loop-entry : goal.invariant-loop-entry
invariant-loop-entry l = l.count ≤ length l.list
