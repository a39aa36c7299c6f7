-- `king_attacked` of lib.rt meets its contract: r ≡ king_attacked (now squares.entry) side s.
use borrow.Author.Tests.{eq-eqb, ne_eqb}
use mathlib.Core.Path.{◌∙◌}
use Rattle.move_laws.specs.Attack.{king_attacked}
use Rattle.legal.proofs.king_attacked.Goals as goal

pub returns-then-squares-s : goal.returns-then-squares-s
unfolding king_attacked
returns-then-squares-s c = simp (ne_eqb _ _ (rw c.man.ensures at c.if-squares-s.true))

pub returns : goal.returns
unfolding king_attacked
returns c = rw c.other.ensures at c.attacked.ensures ∙ simp (eq-eqb _ _ (rw c.man.ensures at c.if-squares-s.false))
