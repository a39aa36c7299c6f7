use mathlib.Core.Path.{sym, ◌∙◌}
use mathlib.Core.Bool.{true}
use mathlib.Core.List.{[]}
use Prim.Native.Nat.{◌≤◌}
use native.Mathlib.Omega.{arith}
use Rattle.position.specs.Layout.{position_at}
use Rattle.position.proofs.Repeats.{equal_at}
use Rattle.position.proofs.PlacesOf.{numbers, told_next, told_most, told_none, told_all, told_same, places_not_there}
use Rattle.position.proofs.equal_places.Goals.{then-same_position, else-same_position}
use Rattle.position.proofs.equal_places.Goals as goal

pub returns-in_default : goal.returns-in_default
returns-in_default c =
    sym (places_not_there c.args.ps.now c.args.first c.args.last (omega (arith, c.in_default.ensures.lookup.3, c.whole-positions.ensures.count)))

pub loop-i-init : goal.loop-i-init
loop-i-init c = (omega arith, told_none c.args.ps.now (position_at c.args.ps.now c.args.last) c.args.first)

pub with_place-found-requires : goal.with_place-found-requires
with_place-found-requires c =
    let most = told_most c.args.ps.now (position_at c.args.ps.now c.args.last) c.args.first c.loop-i.i c.loop-i.found c.loop-i.invariant.1 in
    omega (arith, most, c.loop-i-test.true, c.ranges.last.fits)

pub loop-i-preserved : goal.loop-i-preserved
loop-i-preserved c =
    let ps = c.args.ps.now in
    let first = c.args.first in
    let last = c.args.last in
    let i = c.loop-i.i in
    let found = c.in-Some.ensures.lookup.3 in
    let x = c.whole-positions.ensures.items i (omega (arith, found.0, c.loop-i-test.true)) in
    let y = found.1 [] ∙ c.whole-positions.ensures.items last found.0 in
    let from : first ≤ i = omega (arith, c.loop-i.auto.i) in
    elim c.if-same_position.branch [
      | then-same_position w ↦ (
        omega (arith, c.loop-i-test.true),
        w.found-is
            ∙ told_next ps (position_at ps last) first i w.with_place-found.result true from
            (equal_at ps i last _ _ _ _ x y c.same_position.ensures w.if-same_position.true)
            (w.with_place-found.ensures (numbers ps (position_at ps last) first i) c.loop-i.invariant.1),
      )
      | else-same_position w ↦ (
        omega (arith, c.loop-i-test.true),
        w.found-is
            ∙ told_same ps (position_at ps last) first i c.loop-i.found from
            (equal_at ps i last _ _ _ _ x y c.same_position.ensures w.if-same_position.false) c.loop-i.invariant.1,
      )
    ]

pub returns : goal.returns
returns c =
    let found = c.in-Some.ensures.lookup.3 in
    told_all c.args.ps.now c.args.first c.args.last c.loop-i.i c.loop-i.found (omega (arith, found.0, c.whole-positions.ensures.count))
    (omega (arith, c.loop-i-test.false)) (omega (arith, c.loop-i.auto.i)) (omega (arith, c.loop-i.invariant.0)) c.loop-i.invariant.1
