-- `link_lines` of repeats.rt meets its contract: r ≡ repeats_below (counts_at (now told.entry)) (alike_in (now records.entry)) lines. The loop's
-- invariant: the first lines are linked, and their repeats counted.
use mathlib.Core.Path.{◌≡◌}
use Rattle.report_text.specs.Repeats.{repeats_below}
use Rattle.report.specs.CodeRooms.{counts_at, alike_in}
use Rattle.report.specs.CodeChains.{Linked}
use Rattle.report.proofs.repeats.link_lines.Given as goal

abbrev pub invariant-loop-line : goal.invariant-loop-line
invariant-loop-line l =
    (l.repeated ≡ repeats_below (counts_at l.page.told.now) (alike_in l.page.records.now) l.line)
    × Linked l.page.records.now l.page.told.now l.buckets l.heads l.next l.line
