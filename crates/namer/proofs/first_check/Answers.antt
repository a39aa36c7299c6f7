-- `first_check` of lib.rt meets its contract: r ≡ first_check board list listed.
use Rattle.namer.specs.CodeTries.{first_check}
use Rattle.namer.proofs.first_check.Goals as goal

pub returns-then-not-board : goal.returns-then-not-board
unfolding first_check
returns-then-not-board c =
    simp c.if-not-board.true

pub returns-then-not-list : goal.returns-then-not-list
unfolding first_check
returns-then-not-list c =
    simp (c.if-not-board.false, c.if-not-list.true)

pub returns-then-not-listed : goal.returns-then-not-listed
unfolding first_check
returns-then-not-listed c =
    simp (c.if-not-board.false, c.if-not-list.false, c.if-not-listed.true)

pub returns : goal.returns
unfolding first_check
returns c =
    simp (c.if-not-board.false, c.if-not-list.false, c.if-not-listed.false)
