-- `add_fit` of resolve.rt meets its contract: r ≡ with_entry f fit m.
use borrow.Author.Tests.{ne_eqb}
use Rattle.san.specs.CodeFitting.{with_entry}
use Rattle.san.proofs.resolve.add_fit.Goals as goal

pub returns-then-not-fit : goal.returns-then-not-fit
unfolding with_entry
returns-then-not-fit c = simp c.if-not-fit.true

pub returns-then-f-eq0 : goal.returns-then-f-eq0
unfolding with_entry
returns-then-f-eq0 c = simp (c.if-not-fit.false, c.if-f-eq0.true)

pub returns : goal.returns
unfolding with_entry
returns c = simp (c.if-not-fit.false, ne_eqb _ _ c.if-f-eq0.false)
