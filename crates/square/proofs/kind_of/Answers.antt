-- `kind_of` of lib.rt meets its contract: r ≡ kind_of code.
use borrow.Author.Tests.{le-leb, lt-leb}
use Rattle.square.specs.Piece.{kind_of}
use Rattle.square.proofs.kind_of.Goals as goal

pub returns-then-code-le6 : goal.returns-then-code-le6
unfolding kind_of
returns-then-code-le6 c = simp (le-leb _ _ c.if-code-le6.true)

pub returns-else-code-le6 : goal.returns-else-code-le6
unfolding kind_of
returns-else-code-le6 c = simp (lt-leb _ _ c.if-code-le6.false)
