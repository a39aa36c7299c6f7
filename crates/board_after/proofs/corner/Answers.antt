-- `corner` of lib.rt meets its contract: r ≡ corner source dest.
use borrow.Author.Tests.{lt-ltb, le-ltb}
use native.Mathlib.Omega.{arith}
use Rattle.move_rules.specs.After.{corner}
use Rattle.board_after.proofs.corner.Goals as goal

pub returns-then-source-dest : goal.returns-then-source-dest
unfolding corner
returns-then-source-dest c = simp (lt-ltb _ _ c.if-source-dest.true)

pub returns-else-source-dest : goal.returns-else-source-dest
unfolding corner
returns-else-source-dest c = simp (le-ltb _ _ c.if-source-dest.false) (omega arith)
