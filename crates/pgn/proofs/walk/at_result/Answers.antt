-- `at_result` of walk.rt meets its contract: r ≡ at_result level count at.
use borrow.Author.Tests.{eq-eqb, ne_eqb}
use Rattle.pgn.specs.CodeWalkers.{at_result}
use Rattle.pgn.proofs.walk.at_result.Goals as goal

pub returns-then-level-eq0 : goal.returns-then-level-eq0
unfolding at_result
returns-then-level-eq0 c = simp (eq-eqb _ _ c.if-level-eq0.true)

pub returns : goal.returns
unfolding at_result
returns c = simp (ne_eqb _ _ c.if-level-eq0.false)
