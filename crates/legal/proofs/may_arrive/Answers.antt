-- `may_arrive` of lib.rt meets its contract: r ≡ may_arrive side man.
use borrow.Author.Tests.{eq-eqb, ne_eqb}
use mathlib.Core.Path.{◌∙◌}
use Rattle.move_laws.specs.Move.{may_arrive}
use Rattle.legal.proofs.may_arrive.Goals as goal

pub returns-then-man-eq0 : goal.returns-then-man-eq0
unfolding may_arrive
returns-then-man-eq0 c = simp (eq-eqb _ _ c.if-man-eq0.true)

pub returns : goal.returns
unfolding may_arrive
returns c = c.may_take.ensures ∙ simp (ne_eqb _ _ c.if-man-eq0.false)
