-- `way_attacked` of lib.rt meets its contract: r ≡ way_attacked (now squares.entry) side s t.
use mathlib.Core.Path.{sym, ◌∙◌}
use Rattle.move_laws.specs.Move.{way_attacked}
use Rattle.legal.proofs.way_attacked.Goals as goal

pub returns-then-attacked : goal.returns-then-attacked
unfolding way_attacked
returns-then-attacked c =
    let from = rw c.other-other.ensures at c.attacked.ensures in
    simp (sym from ∙ c.if-attacked.true)

pub returns-then-attacked-2 : goal.returns-then-attacked-2
unfolding way_attacked
returns-then-attacked-2 c =
    let from = rw c.other-other.ensures at c.attacked.ensures in
    let across = rw c.other-other.ensures at c.attacked-2.ensures in
    simp (sym from ∙ c.if-attacked.false, sym across ∙ c.if-attacked-2.true)

pub returns : goal.returns
unfolding way_attacked
returns c =
    let from = rw c.other-other.ensures at c.attacked.ensures in
    let across = rw c.other-other.ensures at c.attacked-2.ensures in
    let to = rw c.other-other.ensures at c.attacked-3.ensures in
    to ∙ simp (sym from ∙ c.if-attacked.false, sym across ∙ c.if-attacked-2.false)
