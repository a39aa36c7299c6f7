-- `ahead` of lib.rt meets its contract: r ≡ ahead side s t n.
use borrow.Author.Tests.{eq-eqb, ne_eqb}
use Rattle.move_laws.specs.Attack.{ahead}
use Rattle.legal.proofs.ahead.Goals as goal

pub returns-then-side-eq0 : goal.returns-then-side-eq0
unfolding ahead
returns-then-side-eq0 c = simp (eq-eqb _ _ c.if-side-eq0.true)

pub returns : goal.returns
unfolding ahead
returns c = simp (ne_eqb _ _ c.if-side-eq0.false)
