-- `add_men` of men.rt meets its contract: for every xs, now sets.entry ≡ kind_sets xs → Added xs (now men.entry) (now men.exit).
use Rattle.report.proofs.Sums.{CountedTo}
use Rattle.report.proofs.men.add_men.Given as goal

abbrev pub invariant-loop-kind : goal.invariant-loop-kind
invariant-loop-kind l = CountedTo l.sets l.initial.men l.men l.kind
