-- `square_at` of text.rt meets its contract: r ≡ square_at file rank.
use borrow.Author.Tests.{eq-eqb, ne_eqb}
use Rattle.san_text.specs.Place.{square_at}
use Rattle.san_reader.proofs.text.square_at.Goals as goal

pub returns-then-file-eq0 : goal.returns-then-file-eq0
unfolding square_at
returns-then-file-eq0 c = simp (eq-eqb _ _ c.if-file-eq0.true)

pub returns-then-rank-eq0 : goal.returns-then-rank-eq0
unfolding square_at
returns-then-rank-eq0 c = simp (ne_eqb _ _ c.if-file-eq0.false, eq-eqb _ _ c.if-rank-eq0.true)

pub returns : goal.returns
unfolding square_at
returns c = simp (ne_eqb _ _ c.if-file-eq0.false, ne_eqb _ _ c.if-rank-eq0.false)
