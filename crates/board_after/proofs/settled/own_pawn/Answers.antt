-- `own_pawn` of settled.rt meets its contract: r ≡ own_pawn side.
use borrow.Author.Tests.{eq-eqb, ne_eqb}
use Rattle.settled_rules.specs.Settled.{own_pawn}
use Rattle.board_after.proofs.settled.own_pawn.Goals as goal

pub returns-then-side-eq0 : goal.returns-then-side-eq0
unfolding own_pawn
returns-then-side-eq0 c = simp (eq-eqb _ _ c.if-side-eq0.true)

pub returns-else-side-eq0 : goal.returns-else-side-eq0
unfolding own_pawn
returns-else-side-eq0 c = simp (ne_eqb _ _ c.if-side-eq0.false)
