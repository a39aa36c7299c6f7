-- `agrees` of resolve.rt meets its contract: r ≡ agrees wanted found.
use borrow.Author.Tests.{eq-eqb, ne_eqb}
use Rattle.san_text.specs.Resolve.{agrees}
use Rattle.san.proofs.resolve.agrees.Goals as goal

pub returns-then-wanted-eq0 : goal.returns-then-wanted-eq0
unfolding agrees
returns-then-wanted-eq0 c = simp (eq-eqb _ _ c.if-wanted-eq0.true)

pub returns : goal.returns
unfolding agrees
returns c = simp (ne_eqb _ _ c.if-wanted-eq0.false)
