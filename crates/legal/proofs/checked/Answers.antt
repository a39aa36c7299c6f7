use mathlib.Core.Path.{refl, sym, ◌∙◌}
use Rattle.move_laws.specs.Attack.{in_check}
use Rattle.legal.proofs.Checks.{check_turn, check_stop, check_end}
use Rattle.legal.proofs.checked.Goals as goal

pub loop-s-init : goal.loop-s-init
unfolding in_check
loop-s-init c = refl

pub returns-then-king_attacked : goal.returns-then-king_attacked
returns-then-king_attacked c =
    let a = c.args in
    sym (c.loop-s.invariant ∙ check_stop a.squares.now a.side.number c.loop-s.s c.loop-s-test.true (sym c.king_attacked.ensures ∙ c.if-king_attacked.true))

pub loop-s-preserved : goal.loop-s-preserved
loop-s-preserved c =
    let a = c.args in
    c.loop-s.invariant ∙ check_turn a.squares.now a.side.number c.loop-s.s c.loop-s-test.true (sym c.king_attacked.ensures ∙ c.if-king_attacked.false)

pub returns : goal.returns
returns c =
    let a = c.args in
    sym (c.loop-s.invariant ∙ check_end a.squares.now a.side.number c.loop-s.s c.loop-s-test.false)
