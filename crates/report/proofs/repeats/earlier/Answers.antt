use mathlib.Core.Path.{◌≡◌, sym, ◌∙◌}
use Prim.Native.Nat.{◌+◌, ◌-◌, ◌<◌}
use native.Mathlib.Omega.{arith}
use Rattle.report.specs.CodeRooms.{alike_in}
use Rattle.report.proofs.Chains.{alike_passes, walk_begins, walk_here, walk_on, walk_ends}
use Rattle.report.proofs.repeats.earlier.Goals as goal

pub loop-link-init : goal.loop-link-init
loop-link-init c =
    let a = c.args in
    let alike = alike_in a.page.records.now in
    (omega arith, λ counts bucket chain. walk_begins counts alike bucket (alike_passes a.page.records.now) a.next.now a.from a.i chain)

pub returns-then-same_record : goal.returns-then-same_record
returns-then-same_record c =
    let a = c.args in
    let at-loop = c.loop-link in
    let e : at-loop.link ≡ (at-loop.link - 1) + 1 = omega (arith, c.loop-link-test.true) in
    λ counts bucket chain.
    let alike = alike_in a.page.records.now in
    sym (walk_here counts alike bucket a.i (at-loop.link - 1) (rw e at (at-loop.invariant.1 counts bucket chain))
    (sym c.same_record.ensures ∙ c.if-same_record.true))

pub loop-link-preserved : goal.loop-link-preserved
loop-link-preserved c =
    let a = c.args in
    let at-loop = c.loop-link in
    let line = at-loop.link - 1 in
    let e : at-loop.link ≡ line + 1 = omega (arith, c.loop-link-test.true) in
    let h : line < a.i = omega (arith, at-loop.invariant.0) in
    let other = sym c.same_record.ensures ∙ c.if-same_record.false in (
      omega (arith, c.requires.falling line),
      λ counts bucket chain.
          walk_on counts (alike_in a.page.records.now) bucket (alike_passes a.page.records.now) a.next.now a.from a.i chain line h
          (rw e at (at-loop.invariant.1 counts bucket chain)) other,
    )

pub returns : goal.returns
returns c =
    let a = c.args in
    let at-loop = c.loop-link in
    let e : at-loop.link ≡ 0 = omega (arith, c.loop-link-test.false) in
    λ counts bucket chain. sym (walk_ends counts (alike_in a.page.records.now) bucket a.i (rw e at (at-loop.invariant.1 counts bucket chain)))
