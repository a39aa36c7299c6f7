use mathlib.Core.Path.{sym}
use Prim.Native.Nat.{◌+◌}
use native.Mathlib.Omega.{arith}
use Rattle.report.specs.CodeRooms.{counts_at, alike_in}
use Rattle.report.proofs.Chains.{repeats_none, repeats_next, repeats_most}
use Rattle.report.proofs.repeats.link_lines.Goals as goal

pub loop-line-init : goal.loop-line-init
loop-line-init c = (sym (repeats_none _ _), c.requires.linked)

pub overflow_add-repeated : goal.overflow_add-repeated
overflow_add-repeated c =
    let at-loop = c.loop-line in
    let counts = counts_at c.args.page.told.now in
    let alike = alike_in c.args.page.records.now in
    let next = repeats_next counts alike at-loop.line in
    omega (arith, c.args.page.rooms.few, c.link_line-repeated.ensures.repeat, at-loop.invariant.0, next, repeats_most counts alike (at-loop.line + 1))

pub loop-line-preserved : goal.loop-line-preserved
loop-line-preserved c =
    let a = c.args in
    let at-loop = c.loop-line in
    let next = repeats_next (counts_at a.page.told.now) (alike_in a.page.records.now) at-loop.line in
    (omega (arith, c.link_line-repeated.ensures.repeat, at-loop.invariant.0, next), c.link_line-repeated.ensures.links)
