-- `attacks` of lib.rt meets its contract: r ≡ attacks (now squares.entry) side s t.
use mathlib.Core.Path.{sym, ◌∙◌}
use Rattle.move_laws.specs.Attack.{attacks}
use Rattle.legal.proofs.attacks.Goals as goal

pub returns-then-not-of_side : goal.returns-then-not-of_side
unfolding attacks
returns-then-not-of_side c = simp (sym c.of_side.ensures ∙ c.if-not-of_side.true)

pub returns : goal.returns
unfolding attacks
returns c =
    let at-of-side = c.of_side in
    let at-if1 = c.if-not-of_side in
    let at-kind-of = c.kind_of in
    c.kind_attacks.ensures ∙ simp (sym at-of-side.ensures ∙ at-if1.false, at-kind-of.ensures)
