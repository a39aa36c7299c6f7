-- `earlier` of repeats.rt meets its contract: of any counts and buckets by which line i is chained, r tells whether one like it is found below. The loop's
-- invariant: what is found below line i is found below the link, and the link is its bucket's latest.
use mathlib.Core.Bool.{Bool}
use Prim.Native.Nat.{ℕ, ◌≤◌}
use Rattle.report.specs.CodeRooms.{alike_in}
use Rattle.report.specs.CodeChains.{Chained}
use Rattle.report.proofs.Chains.{Walked}
use Rattle.report.proofs.repeats.earlier.Given as goal

abbrev pub invariant-loop-link : goal.invariant-loop-link
invariant-loop-link l =
    (l.link ≤ l.i)
    × ((counts : ℕ → Bool) (bucket : ℕ → ℕ) → Chained counts (alike_in l.page.records.now) bucket l.next l.from l.i
    → Walked counts (alike_in l.page.records.now) bucket l.i l.link)

abbrev pub decreases-loop-link : goal.decreases-loop-link
decreases-loop-link l = l.link
