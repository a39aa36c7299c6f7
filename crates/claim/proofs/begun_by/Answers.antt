use borrow.Author.Rules.{rules}
use mathlib.Core.Path.{◌≡◌, refl, ap, sym, ◌∙◌}
use mathlib.Core.List.{List}
use native.Mathlib.Omega.{arith}
use Prim.Native.Nat.{ℕ, ◌+◌, ◌-◌}
use Rattle.actions.specs.Part.{moves_in}
use Rattle.actions.proofs.Counting.{one_more_lem, no_more}
use Rattle.position.specs.Layout.{position_of, position_at}
use Rattle.claim.specs.Emptying.{rights_differ, empties_run}
use Rattle.claim.specs.CodeBack.{begun_by}
use Rattle.claim.proofs.Back.{rights_alike, begun_start, begun_by_none, begun_here, begun_before, same_before}
use Rattle.claim.proofs.begun_by.Goals as goal

pub loop-i-init : goal.loop-i-init
loop-i-init c =
    let last = position_of c.at-last.result.now in
    let same = ap (λ (p : List ℕ). rights_differ (position_of p) last) (sym c.at-last.ensures) ∙ rights_alike last in
    (c.moves_in-k.ensures, refl, same, search rules)

pub overflow_sub-k : goal.overflow_sub-k
overflow_sub-k c =
    let at-loop = c.loop-i in
    let acts = c.args.acts.now in
    let k = at-loop.k in
    let j = at-loop.i - 1 in
    let m = c.move_at-m.result in
    let e : at-loop.i ≡ j + 1 = omega (arith, c.loop-i-test.true) in
    let counted : k ≡ moves_in acts (j + 1) = at-loop.invariant.0 ∙ ap (moves_in acts) e in
    omega (arith, one_more_lem acts j m c.move_at-m.ensures c.if-m-le-LAST_MOVE.true)

pub returns-then-empties : goal.returns-then-empties
returns-then-empties c =
    let a = c.args in
    let at_at = c.at-last in
    let at-loop = c.loop-i in
    let at-loop-test = c.loop-i-test in
    let at-move-at = c.move_at-m in
    let at-if1 = c.if-m-le-LAST_MOVE in
    let at-at2 = c.at in
    let at-empties = c.empties in
    let acts = a.acts.now in
    let ps = a.ps.now in
    let k = at-loop.k in
    let j = at-loop.i - 1 in
    let m = at-move-at.result in
    let e : at-loop.i ≡ j + 1 = omega (arith, at-loop-test.true) in
    let counted : k ≡ moves_in acts (j + 1) = at-loop.invariant.0 ∙ ap (moves_in acts) e in
    let was : begun_by acts ps (j + 1) ≡ begun_by acts ps a.n = ap (begun_by acts ps) (sym e) ∙ at-loop.invariant.1 in
    let told : at-empties.result ≡ empties_run (position_at ps (k - 1)) m (position_of at_at.result.now) =
    at-empties.ensures ∙ ap (λ (p : List ℕ). empties_run (position_of p) m (position_of at_at.result.now)) at-at2.ensures in
    sym (begun_here acts ps j m at-move-at.ensures at-if1.true k counted (position_of at_at.result.now) at-loop.invariant.2 at-empties.result told
    c.if-empties.true)
    ∙ was

pub overflow_sub-k-then-m-le-LAST_MOVE : goal.overflow_sub-k-then-m-le-LAST_MOVE
overflow_sub-k-then-m-le-LAST_MOVE c =
    let at-loop = c.loop-i in
    let at-move-at = c.move_at-m in
    let acts = c.args.acts.now in
    let k = at-loop.k in
    let j = at-loop.i - 1 in
    let m = at-move-at.result in
    let e : at-loop.i ≡ j + 1 = omega (arith, c.loop-i-test.true) in
    let counted : k ≡ moves_in acts (j + 1) = at-loop.invariant.0 ∙ ap (moves_in acts) e in
    omega (arith, one_more_lem acts j m at-move-at.ensures c.if-m-le-LAST_MOVE.true)

pub loop-i-preserved-then-m-le-LAST_MOVE : goal.loop-i-preserved-then-m-le-LAST_MOVE
loop-i-preserved-then-m-le-LAST_MOVE c =
    let a = c.args in
    let at_at = c.at-last in
    let at-loop = c.loop-i in
    let at-loop-test = c.loop-i-test in
    let at-move-at = c.move_at-m in
    let at-if1 = c.if-m-le-LAST_MOVE in
    let at-at2 = c.at in
    let at-empties = c.empties in
    let acts = a.acts.now in
    let ps = a.ps.now in
    let k = at-loop.k in
    let j = at-loop.i - 1 in
    let m = at-move-at.result in
    let e : at-loop.i ≡ j + 1 = omega (arith, at-loop-test.true) in
    let counted : k ≡ moves_in acts (j + 1) = at-loop.invariant.0 ∙ ap (moves_in acts) e in
    let was : begun_by acts ps (j + 1) ≡ begun_by acts ps a.n = ap (begun_by acts ps) (sym e) ∙ at-loop.invariant.1 in
    let told : at-empties.result ≡ empties_run (position_at ps (k - 1)) m (position_of at_at.result.now) =
    at-empties.ensures ∙ ap (λ (p : List ℕ). empties_run (position_of p) m (position_of at_at.result.now)) at-at2.ensures in
    let before = begun_before acts ps j m at-move-at.ensures at-if1.true k counted (position_of at_at.result.now) at-loop.invariant.2
    at-empties.result told c.if-empties.false in
    let same = same_before acts ps j m at-move-at.ensures at-if1.true k counted (position_of at_at.result.now) at-loop.invariant.2
    at-empties.result told c.if-empties.false in
    (omega (arith, one_more_lem acts j m at-move-at.ensures at-if1.true), sym before ∙ was, same, omega (arith, at-loop.invariant.3))

pub loop-i-preserved : goal.loop-i-preserved
loop-i-preserved c =
    let a = c.args in
    let at-loop = c.loop-i in
    let at-loop-test = c.loop-i-test in
    let at-move-at = c.move_at-m in
    let acts = a.acts.now in
    let ps = a.ps.now in
    let k = at-loop.k in
    let j = at-loop.i - 1 in
    let m = at-move-at.result in
    let e : at-loop.i ≡ j + 1 = omega (arith, at-loop-test.true) in
    let counted : k ≡ moves_in acts (j + 1) = at-loop.invariant.0 ∙ ap (moves_in acts) e in
    let was : begun_by acts ps (j + 1) ≡ begun_by acts ps a.n = ap (begun_by acts ps) (sym e) ∙ at-loop.invariant.1 in (
      counted ∙ no_more acts j m at-move-at.ensures c.if-m-le-LAST_MOVE.false,
      sym (begun_by_none acts ps j m at-move-at.ensures c.if-m-le-LAST_MOVE.false) ∙ was,
      at-loop.invariant.2,
      omega (arith, at-loop.invariant.3),
    )

pub returns : goal.returns
returns c =
    let a = c.args in
    let at-loop = c.loop-i in
    let e : at-loop.i ≡ 0 = omega (arith, c.loop-i-test.false) in
    sym (begun_start a.acts.now a.ps.now) ∙ ap (begun_by a.acts.now a.ps.now) (sym e) ∙ at-loop.invariant.1
