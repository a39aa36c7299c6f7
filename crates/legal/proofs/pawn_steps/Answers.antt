-- `pawn_steps` of lib.rt meets its contract: r ≡ pawn_steps (now squares.entry) side s t.
use borrow.Author.Tests.{eq-eqb, ne_eqb}
use mathlib.Core.Path.{sym, ◌∙◌}
use Rattle.move_laws.specs.Move.{pawn_steps}
use Rattle.legal.proofs.pawn_steps.Goals as goal

pub returns-then-not-ahead : goal.returns-then-not-ahead
unfolding pawn_steps
returns-then-not-ahead c = simp (sym c.ahead.ensures ∙ c.if-not-ahead.true)

pub returns-then-way : goal.returns-then-way
unfolding pawn_steps
returns-then-way c = simp (sym c.ahead.ensures ∙ c.if-not-ahead.false, ne_eqb _ _ c.if-way.true)

pub returns : goal.returns
unfolding pawn_steps
returns c =
    let at_ahead = c.ahead in
    let at-if1 = c.if-not-ahead in
    let at-if2 = c.if-way in
    simp (sym at_ahead.ensures ∙ at-if1.false, eq-eqb _ _ at-if2.false)
