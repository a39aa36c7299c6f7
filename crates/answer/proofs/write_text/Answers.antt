use mathlib.Core.Path.{◌≡◌, ◌∙◌}
use native.Mathlib.Omega.{arith}
use lib.ListN.{length}
use lib.Seq.{take-length}
use Rattle.answer.proofs.Writes.{write_short, write_fits}
use Rattle.answer.proofs.write_text.Goals as goal

pub returns-then-out-text-clause-answer : goal.returns-then-out-text-clause-answer
returns-then-out-text-clause-answer c = (write_short c.args.text.now c.args.out.now c.if-out-text.true).answer

pub returns-then-out-text-clause-bytes : goal.returns-then-out-text-clause-bytes
returns-then-out-text-clause-bytes c = (write_short c.args.text.now c.args.out.now c.if-out-text.true).bytes

pub returns-clause-answer : goal.returns-clause-answer
returns-clause-answer c = c.accepted.ensures ∙ (write_fits c.args.text.now c.args.out.now c.if-out-text.false).answer

pub returns-clause-bytes : goal.returns-clause-bytes
returns-clause-bytes c =
    let text = c.args.text.now in
    let whole : c.loop-i.i ≡ length text = omega (arith, c.loop-i-test.false, c.loop-i.auto.i-end) in
    c.loop-i.invariant.1 ∙ rw (whole, take-length text) (write_fits text c.args.out.now c.if-out-text.false).bytes
