-- `push_starts` of lib.rt: what has been put, and the lines that are left.
use Rattle.differences.proofs.Starts.{Started}
use Rattle.differences.proofs.push_starts.Given as goal

abbrev pub invariant-loop-i : goal.invariant-loop-i
invariant-loop-i l = Started l.first l.second l.initial.text l.text l.i
