-- `set_down` of lib.rt meets its contract: r ≡ set_down man promotion.
use borrow.Author.Tests.{eq-eqb, ne_eqb}
use mathlib.Core.Path.{ap}
use Prim.Native.Nat.{ℕ, ◌+◌}
use Rattle.move_rules.specs.After.{colour_step, set_down}
use Rattle.board_after.proofs.Touched.{kept_man}
use Rattle.board_after.proofs.set_down.Goals as goal

pub returns-then-promotion-eq0 : goal.returns-then-promotion-eq0
returns-then-promotion-eq0 c = kept_man c.args.man c.args.promotion c.if-promotion-eq0.true

pub returns-then-man-eq0 : goal.returns-then-man-eq0
unfolding set_down
returns-then-man-eq0 c = simp (eq-eqb _ _ c.if-man-eq0.true)

pub returns : goal.returns
unfolding set_down colour_step
returns c =
    let a = c.args in
    let at-if1 = c.if-promotion-eq0 in
    simp (ne_eqb _ _ at-if1.false, ne_eqb _ _ c.if-man-eq0.false) (ap (λ (x : ℕ). a.promotion + x) c.of_colour.ensures)
