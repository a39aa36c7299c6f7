use mathlib.Core.Path.{◌∙◌}
use mathlib.Core.List.{[]}
use lib.Dec.{eqb}
use lib.ListN.{get_or}
use native.Mathlib.Omega.{arith}
use Rattle.roll_writer.proofs.Sized.{one_or_none, one_most, kinds_none, kinds_more}
use Rattle.roll_writer.proofs.moves_by_kind.Goals as goal

pub loop-action-init : goal.loop-action-init
loop-action-init c = (omega arith, λ acts h. kinds_none acts)

pub loop-action-preserved : goal.loop-action-preserved
loop-action-preserved c =
    let kind = eqb (get_or (get_or c.args.actions.now c.loop-action.action-index []) 0 0) 1 in (
      omega (arith, c.loop-action.invariant.0, c.from-k.ensures ∙ one_or_none kind, one_most kind),
      λ acts h. kinds_more c.args.actions.now acts h c.loop-action.action-index c.loop-action.k c.from-k.result [] (c.loop-action.invariant.1 acts h)
          c.loop-action-test.true c.from-k.ensures,
    )
