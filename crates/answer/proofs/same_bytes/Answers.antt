use mathlib.Core.Path.{sym, ◌∙◌}
use native.Mathlib.Omega.{arith}
use Rattle.answer.proofs.Same.{same_lengths, same_turn, same_end}
use Rattle.answer.proofs.same_bytes.Goals as goal

pub returns-then-a-b : goal.returns-then-a-b
returns-then-a-b c = sym (same_lengths _ _ c.if-a-b.true)

pub loop-i-preserved : goal.loop-i-preserved
loop-i-preserved c =
    let at-args = c.args in
    let at-loop = c.loop-i in
    at-loop.invariant ∙ sym (same_turn at-args.a.now at-args.b.now at-loop.differ at-loop.i (omega arith) (omega arith))

pub returns : goal.returns
returns c =
    let args = c.args in
    sym (c.loop-i.invariant ∙ same_end args.a.now args.b.now c.loop-i.differ c.loop-i.i (omega arith) (omega arith))
