-- `push_actions` of lib.rt: how far the search for the first action that differs has come.
use Rattle.differences.proofs.Acts.{Searched}
use Rattle.differences.proofs.push_actions.Given as goal

abbrev pub invariant-loop-i : goal.invariant-loop-i
invariant-loop-i l = Searched l.counted l.first l.other l.second l.initial.text l.text l.at l.to l.i
