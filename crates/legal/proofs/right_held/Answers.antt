-- `right_held` of lib.rt meets its contract: r ≡ right_held rights s t.
use borrow.Author.Tests.{lt-ltb, le-ltb}
use Rattle.move_laws.specs.Move.{right_held}
use Rattle.legal.proofs.right_held.Goals as goal

pub returns-then-way : goal.returns-then-way
unfolding right_held
returns-then-way c = simp (lt-ltb _ _ c.if-way.true)

pub returns : goal.returns
unfolding right_held
returns c = simp (le-ltb _ _ c.if-way.false)
