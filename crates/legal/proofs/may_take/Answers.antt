-- `may_take` of lib.rt meets its contract: r ≡ may_take side man.
use mathlib.Core.Path.{sym, ◌∙◌}
use Rattle.move_laws.specs.Move.{may_take}
use Rattle.legal.proofs.may_take.Goals as goal

pub returns-then-not-of_side : goal.returns-then-not-of_side
unfolding may_take
returns-then-not-of_side c = simp (sym (rw c.other.ensures at c.of_side.ensures) ∙ c.if-not-of_side.true)

pub returns : goal.returns
unfolding may_take
returns c = simp (sym (rw c.other.ensures at c.of_side.ensures) ∙ c.if-not-of_side.false, c.kind_of.ensures)
