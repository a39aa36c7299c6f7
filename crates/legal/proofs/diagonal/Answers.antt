-- `diagonal` of lib.rt meets its contract: r ≡ diagonal s t.
use borrow.Author.Tests.{eq-eqb, ne_eqb}
use Rattle.move_laws.specs.Apart.{diagonal}
use Rattle.legal.proofs.diagonal.Goals as goal

pub returns-then-way : goal.returns-then-way
unfolding diagonal
returns-then-way c = simp (eq-eqb _ _ c.if-way.true)

pub returns : goal.returns
unfolding diagonal
returns c = simp (ne_eqb _ _ c.if-way.false, c.files_apart-files.ensures, c.ranks_apart-ranks.ensures)
