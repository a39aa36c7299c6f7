use mathlib.Core.Path.{sym, ◌∙◌}
use Rattle.legal.proofs.OffLines.{last_turn, last_stop, last_end}
use Rattle.legal.proofs.last_of.Goals as goal

pub returns-then-squares-n-clause-last : goal.returns-then-squares-n-clause-last
returns-then-squares-n-clause-last c =
    sym (c.loop-n.invariant ∙ last_stop c.args.squares.now c.args.man c.loop-n.n c.loop-n-test.true c.if-squares-n.true)

pub loop-n-preserved : goal.loop-n-preserved
loop-n-preserved c = c.loop-n.invariant ∙ last_turn c.args.squares.now c.args.man c.loop-n.n c.loop-n-test.true c.if-squares-n.false

pub returns-clause-last : goal.returns-clause-last
returns-clause-last c = sym (c.loop-n.invariant ∙ last_end c.args.squares.now c.args.man c.loop-n.n c.loop-n-test.false)
