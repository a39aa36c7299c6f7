-- `sum_lines` of men.rt meets its contract: r ≡ counted_below (now told.entry) lines; MenSums (now records.entry) (now told.entry) (now men.exit)
-- lines; Bucketed (now records.entry) (now told.entry) (now buckets.exit) lines.
use Rattle.report.proofs.Sums.{LinesTo}
use Rattle.report.proofs.men.sum_lines.Given as goal

abbrev pub invariant-loop-line : goal.invariant-loop-line
invariant-loop-line l = LinesTo l.page.records.now l.page.told.now l.men l.buckets l.counted l.line
