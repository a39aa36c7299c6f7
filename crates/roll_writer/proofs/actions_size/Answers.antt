use mathlib.Core.Path.{◌∙◌}
use native.Mathlib.Omega.{arith}
use lib.ListN.{length}
use Rattle.roll_writer.proofs.Sized.{size_there, sized_none, sized_more, sized_stop, sized_all}
use Rattle.roll_writer.proofs.actions_size.Goals as goal

pub loop-action-init : goal.loop-action-init
loop-action-init c = (omega arith, λ acts h. sized_none acts (length c.args.actions.now))

pub returns-in_err-k-clause-size : goal.returns-in_err-k-clause-size
returns-in_err-k-clause-size c =
    let actions = c.args.actions.now in
    λ acts h. c.from_residual.ensures ∙ sized_stop acts (length actions) c.loop-action.action-index c.loop-action-test.true
    (size_there actions acts h c.loop-action.action-index _ _ c.loop-action-test.true c.in_err-k.ensures.size)

pub loop-action-preserved : goal.loop-action-preserved
loop-action-preserved c =
    let actions = c.args.actions.now in
    let i = c.loop-action.action-index in (
      omega (arith, c.loop-action.invariant.0, c.in_ok-k.ensures.most),
      λ acts h. sized_more acts (length actions) i c.loop-action.k c.in_ok-k.field-0 (c.loop-action.invariant.1 acts h) c.loop-action-test.true
          (size_there actions acts h i _ _ c.loop-action-test.true c.in_ok-k.ensures.size),
    )

pub returns-clause-size : goal.returns-clause-size
returns-clause-size c =
    λ acts h. sized_all acts (length c.args.actions.now) c.loop-action.action-index c.loop-action.k (c.loop-action.invariant.1 acts h)
    c.loop-action-test.false
