-- `two_ranks` of sets.rt meets its contract: r ≡ ranks_at (now places.entry) at.
use native.Mathlib.Omega.{arith}
use Rattle.report.proofs.Planes.{ranks_fit}
use Rattle.report.proofs.sets.two_ranks.Goals as goal

pub overflow_mul-result : goal.overflow_mul-result
overflow_mul-result c =
    let a = c.args in
    let at_pre = c.requires in
    let at-rank = c.rank in
    omega (arith, ranks_fit a.places.now a.at at_pre.places_value, at-rank.ensures, c.rank-2.ensures)

pub overflow_add-result : goal.overflow_add-result
overflow_add-result c =
    let a = c.args in
    let at_pre = c.requires in
    let at-rank = c.rank in
    omega (arith, ranks_fit a.places.now a.at at_pre.places_value, at-rank.ensures, c.rank-2.ensures)
