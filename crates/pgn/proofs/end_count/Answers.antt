-- `end_count` of lib.rt meets its contract: r ≡ end_count counted number offset.
use borrow.Author.Tests.{eq-eqb, ne_eqb}
use Rattle.pgn_text.specs.Walk.{end_count}
use Rattle.pgn.proofs.end_count.Goals as goal

pub returns-then-number-eq-ACCEPTED : goal.returns-then-number-eq-ACCEPTED
unfolding end_count
returns-then-number-eq-ACCEPTED c = simp (eq-eqb _ _ c.if-number-eq-ACCEPTED.true)

pub returns-else-number-eq-ACCEPTED : goal.returns-else-number-eq-ACCEPTED
unfolding end_count
returns-else-number-eq-ACCEPTED c = simp (ne_eqb _ _ c.if-number-eq-ACCEPTED.false)
