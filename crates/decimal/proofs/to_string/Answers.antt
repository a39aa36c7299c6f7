use mathlib.Core.Path.{sym}
use Prim.Native.Nat.{◌≤◌, ◌<◌}
use native.Mathlib.Omega.{arith}
use Rattle.decimal.proofs.Filled.{filled_more, filled_all}
use Rattle.decimal.proofs.to_string.Goals as goal

pub loop-left-preserved : goal.loop-left-preserved
loop-left-preserved c =
    let ten : 10 ≤ c.loop-left.left = omega arith in
    filled_more _ _ _ _ c.loop-left.invariant ten

pub returns : goal.returns
returns c =
    let l = c.loop-left in
    let one : l.left < 10 = omega arith in
    let text = filled_all _ _ _ _ l.invariant one in
    record { answer = rw (sym text) (c.write_text.ensures.answer); bytes = rw (sym text) (c.write_text.ensures.bytes) }
