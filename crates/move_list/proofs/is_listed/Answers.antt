use mathlib.Core.Path.{◌∙◌, sym}
use Rattle.move_list.proofs.Listed.{listed_turn, listed_stop, listed_end}
use Rattle.move_list.proofs.is_listed.Goals as goal

pub returns-then-x-m : goal.returns-then-x-m
returns-then-x-m c =
    let a = c.args in
    let at-loop = c.loop-x in
    sym (at-loop.invariant ∙ listed_stop a.m a.moves.now at-loop.x-index c.loop-x-test.true c.if-x-m.true)

pub loop-x-preserved : goal.loop-x-preserved
loop-x-preserved c =
    let a = c.args in
    let at-loop = c.loop-x in
    at-loop.invariant ∙ listed_turn a.m a.moves.now at-loop.x-index c.loop-x-test.true c.if-x-m.false

pub returns : goal.returns
returns c =
    let a = c.args in
    sym (c.loop-x.invariant ∙ listed_end a.m a.moves.now c.loop-x.x-index c.loop-x-test.false)
