-- `mark_steps` of lib.rt meets its contract: SkipsFrom (now squares.entry) side 0 (now steps.exit).
use Rattle.legal.proofs.Skipping.{Marking}
use Rattle.legal.proofs.mark_steps.Given as goal

abbrev pub invariant-loop-s : goal.invariant-loop-s
invariant-loop-s l = Marking l.squares l.side.number l.s l.step l.steps
