use mathlib.Core.Path.{refl, sym, ◌∙◌}
use Rattle.move_laws.specs.Attack.{attacked}
use Rattle.legal.proofs.Checks.{attacked_turn, attacked_stop, attacked_end}
use Rattle.legal.proofs.attacked.Goals as goal

pub loop-s-init : goal.loop-s-init
unfolding attacked
loop-s-init c = refl

pub returns-then-attacks : goal.returns-then-attacks
returns-then-attacks c =
    let a = c.args in
    sym (c.loop-s.invariant ∙ attacked_stop a.squares.now a.side.number a.t c.loop-s.s c.loop-s-test.true (sym c.attacks.ensures ∙ c.if-attacks.true))

pub loop-s-preserved : goal.loop-s-preserved
loop-s-preserved c =
    let a = c.args in
    c.loop-s.invariant ∙ attacked_turn a.squares.now a.side.number a.t c.loop-s.s c.loop-s-test.true (sym c.attacks.ensures ∙ c.if-attacks.false)

pub returns : goal.returns
returns c =
    let a = c.args in
    sym (c.loop-s.invariant ∙ attacked_end a.squares.now a.side.number a.t c.loop-s.s c.loop-s-test.false)
