use mathlib.Core.Path.{ap, ◌∙◌}
use mathlib.Core.List.{[]}
use native.Mathlib.Omega.{arith}
use Prim.Native.Nat.{◌+◌}
use lib.ListN.{length}
use Rattle.answer.specs.Parts.{written}
use Rattle.roll_text.specs.declared.Fields.{Fields}
use Rattle.roll_text.specs.Roll.{action_text}
use Rattle.roll_writer.proofs.Counting.{so_far_fits, so_far_more, so_far_all}
use Rattle.roll_writer.proofs.put_actions.Goals as goal

pub put_text-at-requires : goal.put_text-at-requires
put_text-at-requires c =
    let e = ap (λ (f : Fields). length (action_text f.kind f.colour f.number)) c.fields_of.ensures in
    let fits = so_far_fits c.args.actions.now c.args.out.now c.loop-action.out c.args.from c.loop-action.action-index c.loop-action.at []
    c.loop-action.invariant c.loop-action-test.true c.requires in
    omega (arith, fits.0, fits.1, e)

pub loop-action-preserved : goal.loop-action-preserved
loop-action-preserved c =
    let at = c.loop-action.at in
    let f = c.fields_of.ensures in
    let end = c.put_text-at.ensures.end ∙ ap (λ (f : Fields). at + length (action_text f.kind f.colour f.number)) f in
    let bytes = c.put_text-at.ensures.bytes ∙ ap (λ (f : Fields). written c.loop-action.out at (action_text f.kind f.colour f.number)) f in
    rw end (so_far_more c.args.actions.now c.args.out.now c.loop-action.out c.args.from c.loop-action.action-index at [] c.loop-action.invariant
    c.loop-action-test.true c.requires c.put_text-at.new.out bytes)

pub returns : goal.returns
returns c = so_far_all c.args.actions.now c.args.out.now c.loop-action.out c.args.from c.loop-action.action-index c.loop-action.at c.loop-action.invariant
    c.loop-action-test.false
