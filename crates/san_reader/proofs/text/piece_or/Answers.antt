-- `piece_or` of text.rt meets its contract: r ≡ piece_or kind.
use borrow.Author.Tests.{eq-eqb, ne_eqb}
use Rattle.san_text.specs.Text.{piece_or}
use Rattle.san_reader.proofs.text.piece_or.Goals as goal

pub returns-then-kind-eq0 : goal.returns-then-kind-eq0
unfolding piece_or
returns-then-kind-eq0 c = simp (eq-eqb _ _ c.if-kind-eq0.true)

pub returns-else-kind-eq0 : goal.returns-else-kind-eq0
unfolding piece_or
returns-else-kind-eq0 c = simp (ne_eqb _ _ c.if-kind-eq0.false)
