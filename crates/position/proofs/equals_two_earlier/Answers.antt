use mathlib.Core.Path.{◌≡◌, refl, sym, ◌∙◌}
use mathlib.Core.List.{[]}
use native.Mathlib.Omega.{arith}
use Rattle.position.specs.Layout.{position_at}
use Rattle.position.proofs.Repeats.{earlier_other, earlier_none, equal_at, turn_equal, turn_other, two_there, one_there, not_there}
use Rattle.position.proofs.equals_two_earlier.Goals.{then-same_position+else-loop-j-test, else-same_position}
use Rattle.position.proofs.equals_two_earlier.Goals as goal

pub returns-in_default : goal.returns-in_default
returns-in_default c =
    sym (not_there c.args.ps.now c.args.first c.args.last (omega (arith, c.in_default.ensures.lookup.3, c.whole-positions.ensures.count)))

pub pairs-init : goal.pairs-init
pairs-init c = (refl, omega (arith, earlier_none c.args.ps.now (position_at c.args.ps.now c.args.last) c.args.first))

pub loop-j-init : goal.loop-j-init
loop-j-init c = (c.pairs.invariant.0, earlier_none c.args.ps.now (position_at c.args.ps.now c.args.last) c.args.first)

pub loop-j-preserved : goal.loop-j-preserved
loop-j-preserved c =
    let ps = c.args.ps.now in
    let last = c.args.last in
    let j = c.loop-j.j in
    let found = c.in-Some.ensures.lookup.3 in
    let x = c.whole-positions.ensures.items j (omega (arith, found.0, c.pairs-test.true, c.loop-j-test.true)) in
    let y = found.1 [] ∙ c.whole-positions.ensures.items last found.0 in
    let passed = equal_at ps j last _ _ _ _ x y c.same_position-in-loop-j.ensures c.if-same_position-2.false in
    (c.loop-j.invariant.0, earlier_other ps (position_at ps last) c.args.first j (omega (arith, c.loop-j.auto.j)) passed ∙ c.loop-j.invariant.1)

pub pairs-preserved : goal.pairs-preserved
pairs-preserved c =
    let ps = c.args.ps.now in
    let first = c.args.first in
    let last = c.args.last in
    let i = c.pairs.i in
    let found = c.in-Some.ensures.lookup.3 in
    let x = c.whole-positions.ensures.items i (omega (arith, found.0, c.pairs-test.true)) in
    let y = found.1 [] ∙ c.whole-positions.ensures.items last found.0 in
    elim c.if-same_position.branch [
      | then-same_position+else-loop-j-test w ↦
          let e : w.loop-j.j ≡ i = omega (arith, w.loop-j-test.false, w.loop-j.auto.j-end, c.pairs.auto.i) in
          let equal_here = equal_at ps i last _ _ _ _ x y c.same_position.ensures w.if-same_position.true in (
            w.found-is ∙ w.loop-j.invariant.0,
            turn_equal ps (position_at ps last) first i (omega (arith, c.pairs.auto.i)) equal_here (rw e at w.loop-j.invariant.1),
          )
      | else-same_position w ↦
          let other = equal_at ps i last _ _ _ _ x y c.same_position.ensures w.if-same_position.false in
          (w.found-is ∙ c.pairs.invariant.0, turn_other ps (position_at ps last) first i (omega (arith, c.pairs.auto.i)) other c.pairs.invariant.1)
    ]

pub returns-after-pairs : goal.returns-after-pairs
returns-after-pairs c =
    let found = c.in-Some.ensures.lookup.3 in
    c.pairs.invariant.0
    ∙ sym (one_there c.args.ps.now c.args.first c.args.last c.pairs.i (omega (arith, found.0, c.whole-positions.ensures.count))
    (omega (arith, c.pairs-test.false)) (λ h. omega (arith, c.pairs.auto.i-end, h)) c.pairs.invariant.1)

pub returns-then-same_position-2 : goal.returns-then-same_position-2
returns-then-same_position-2 c =
    let ps = c.args.ps.now in
    let last = c.args.last in
    let i = c.pairs.i in
    let j = c.loop-j.j in
    let found = c.in-Some.ensures.lookup.3 in
    let x = c.whole-positions.ensures.items in
    let y = found.1 [] ∙ x last found.0 in
    sym (two_there ps c.args.first last i j (omega (arith, found.0, c.whole-positions.ensures.count)) (omega (arith, c.loop-j.auto.j))
    (omega (arith, c.loop-j-test.true)) (omega (arith, c.pairs-test.true))
    (equal_at ps j last _ _ _ _ (x j (omega (arith, found.0, c.pairs-test.true, c.loop-j-test.true))) y c.same_position-in-loop-j.ensures
    c.if-same_position-2.true)
    (equal_at ps i last _ _ _ _ (x i (omega (arith, found.0, c.pairs-test.true))) y c.same_position.ensures c.if-same_position.true))
