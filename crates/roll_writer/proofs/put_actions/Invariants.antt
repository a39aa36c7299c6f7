-- `put_actions` of lib.rt meets its contract.
use Rattle.roll_writer.proofs.Counting.{SoFar}
use Rattle.roll_writer.proofs.put_actions.Given as goal

abbrev pub invariant-loop-action : goal.invariant-loop-action
invariant-loop-action l = SoFar l.actions l.initial.out l.out l.from l.action-index l.at
