-- `of_side` of lib.rt meets its contract: r ≡ of_side side man.
use borrow.Author.Tests.{le-leb, lt-leb}
use Rattle.move_laws.specs.Attack.{of_side}
use Rattle.legal.proofs.of_side.Goals as goal

pub returns-then-man : goal.returns-then-man
unfolding of_side
returns-then-man c = simp (lt-leb _ _ (rw c.man.ensures at c.if-man.true))

pub returns : goal.returns
unfolding of_side
returns c = rw c.man-2.ensures (simp (le-leb _ _ (rw c.man.ensures at c.if-man.false)))
