-- `stepped_pawn` of settled.rt meets its contract: r ≡ stepped_pawn side file; r < 64.
use borrow.Author.Rules.{rules}
use borrow.Author.Tests.{eq-eqb, ne_eqb}
use Rattle.settled_rules.specs.Settled.{stepped_pawn, stepped_rank}
use Rattle.board_after.proofs.settled.stepped_pawn.Goals as goal

pub returns-then-side-eq0 : goal.returns-then-side-eq0
unfolding stepped_pawn stepped_rank
returns-then-side-eq0 c = record { square = simp (eq-eqb _ _ c.if-side-eq0.true); below = search rules }

pub returns-else-side-eq0 : goal.returns-else-side-eq0
unfolding stepped_pawn stepped_rank
returns-else-side-eq0 c = record { square = simp (ne_eqb _ _ c.if-side-eq0.false); below = search rules }
