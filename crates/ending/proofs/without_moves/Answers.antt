-- `without_moves` of lib.rt meets its contract: r ≡ result_without_moves side check.
use mathlib.Core.Path.{◌≡◌}
use native.Mathlib.Omega.{arith}
use borrow.Author.Tests.{eq-eqb, ne_eqb}
use Rattle.ending.proofs.without_moves.Goals as goal

pub returns-then-check-eq0 : goal.returns-then-check-eq0
returns-then-check-eq0 c =
    let quiet : c.args.check ≡ 0 = omega (arith, c.if-check-eq0.true) in
    simp (eq-eqb _ _ quiet)

pub returns-then-side-eq0 : goal.returns-then-side-eq0
returns-then-side-eq0 c = simp (ne_eqb _ _ c.if-check-eq0.false, eq-eqb _ _ c.if-side-eq0.true)

pub returns : goal.returns
returns c = simp (ne_eqb _ _ c.if-check-eq0.false, ne_eqb _ _ c.if-side-eq0.false)
