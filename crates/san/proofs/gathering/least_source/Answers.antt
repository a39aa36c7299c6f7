use native.Mathlib.Omega.{arith}
use mathlib.Core.Path.{sym, ◌∙◌}
use Rattle.san.specs.CodeGathered.{picked}
use Rattle.san.proofs.OnePass.{least_turn, least_end}
use Rattle.san.proofs.gathering.least_source.Goals as goal

pub loop-m-preserved : goal.loop-m-preserved
loop-m-preserved c =
    let a = c.args in
    let l = c.loop-m in
    let turn = least_turn (picked a.mask a.want) l.least a.moves.now l.m-index l.invariant.0 (omega arith) in
    rw (c.min-least.ensures, c.choose.ensures, c.picked.ensures) (omega arith, sym turn ∙ l.invariant.1)

pub returns : goal.returns
returns c =
    let a = c.args in
    let l = c.loop-m in
    sym (least_end (picked a.mask a.want) l.least a.moves.now l.m-index (omega arith)) ∙ l.invariant.1
