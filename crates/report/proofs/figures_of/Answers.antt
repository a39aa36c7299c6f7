-- `figures_of` meets its contract: (ls : List (List ℕ)) → Filled ls (now records.entry) (now told.entry) lines → r ≡ figures ls.
use native.Mathlib.Omega.{arith}
use Rattle.report.proofs.Filling.{counted_most, figures_are}
use Rattle.report.proofs.figures_of.Goals as goal

pub overflow_sub-result : goal.overflow_sub-result
overflow_sub-result c =
    let a = c.args in
    omega (arith, c.sum_lines-accepted.ensures.counted, counted_most a.page.told.now a.page.lines)

pub returns : goal.returns
returns c =
    let a = c.args in
    let sums = c.sum_lines-accepted.ensures in
    λ ls f. figures_are ls a.page.records.now a.page.told.now a.page.lines f _ _ _ sums.men sums.counted c.repeats-repeated.ensures
