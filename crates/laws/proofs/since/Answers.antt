use mathlib.Core.Path.{◌≡◌, ap, sym, ◌∙◌}
use native.Mathlib.Omega.{arith}
use Prim.Native.Nat.{◌+◌, ◌-◌}
use Rattle.actions.specs.Part.{moves_in}
use Rattle.actions.proofs.Counting.{one_more_lem, no_more}
use Rattle.laws.specs.CodeSince.{laws_since}
use Rattle.laws.proofs.Back.{since_start, since_by_none, since_found, since_passed}
use Rattle.laws.proofs.since.Goals as goal

pub overflow_sub-k : goal.overflow_sub-k
overflow_sub-k c =
    let at-loop = c.loop-i in
    let acts = c.args.acts.now in
    let k = at-loop.k in
    let j = at-loop.i - 1 in
    let m = c.move_at-m.result in
    let e : at-loop.i ≡ j + 1 = omega (arith, c.loop-i-test.true) in
    let counted : k ≡ moves_in acts (j + 1) = at-loop.invariant.0 ∙ ap (moves_in acts) e in
    omega (arith, one_more_lem acts j m c.move_at-m.ensures c.if-m-le-LAST_MOVE.true)

pub returns-then-is_irreversible : goal.returns-then-is_irreversible
returns-then-is_irreversible c =
    let a = c.args in
    let at-loop = c.loop-i in
    let at-loop-test = c.loop-i-test in
    let at-move-at = c.move_at-m in
    let at-if1 = c.if-m-le-LAST_MOVE in
    let at_at = c.at in
    let at-is-irreversible = c.is_irreversible in
    let acts = a.acts.now in
    let ps = a.ps.now in
    let k = at-loop.k in
    let j = at-loop.i - 1 in
    let m = at-move-at.result in
    let e : at-loop.i ≡ j + 1 = omega (arith, at-loop-test.true) in
    let counted : k ≡ moves_in acts (j + 1) = at-loop.invariant.0 ∙ ap (moves_in acts) e in
    let was : laws_since acts ps (j + 1) ≡ laws_since acts ps a.n = ap (laws_since acts ps) (sym e) ∙ at-loop.invariant.1 in
    let found =
    since_found acts ps j m at-move-at.ensures at-if1.true k counted at_at.result.now at_at.ensures at-is-irreversible.result
    at-is-irreversible.ensures c.if-is_irreversible.true in
    sym found ∙ was

pub overflow_sub-k-then-m-le-LAST_MOVE : goal.overflow_sub-k-then-m-le-LAST_MOVE
overflow_sub-k-then-m-le-LAST_MOVE c =
    let at-loop = c.loop-i in
    let at-move-at = c.move_at-m in
    let acts = c.args.acts.now in
    let k = at-loop.k in
    let j = at-loop.i - 1 in
    let m = at-move-at.result in
    let e : at-loop.i ≡ j + 1 = omega (arith, c.loop-i-test.true) in
    let counted : k ≡ moves_in acts (j + 1) = at-loop.invariant.0 ∙ ap (moves_in acts) e in
    omega (arith, one_more_lem acts j m at-move-at.ensures c.if-m-le-LAST_MOVE.true)

pub loop-i-preserved-then-m-le-LAST_MOVE : goal.loop-i-preserved-then-m-le-LAST_MOVE
loop-i-preserved-then-m-le-LAST_MOVE c =
    let a = c.args in
    let at-loop = c.loop-i in
    let at-loop-test = c.loop-i-test in
    let at-move-at = c.move_at-m in
    let at-if1 = c.if-m-le-LAST_MOVE in
    let at_at = c.at in
    let at-is-irreversible = c.is_irreversible in
    let acts = a.acts.now in
    let ps = a.ps.now in
    let k = at-loop.k in
    let j = at-loop.i - 1 in
    let m = at-move-at.result in
    let e : at-loop.i ≡ j + 1 = omega (arith, at-loop-test.true) in
    let counted : k ≡ moves_in acts (j + 1) = at-loop.invariant.0 ∙ ap (moves_in acts) e in
    let was : laws_since acts ps (j + 1) ≡ laws_since acts ps a.n = ap (laws_since acts ps) (sym e) ∙ at-loop.invariant.1 in
    let passed =
    since_passed acts ps j m at-move-at.ensures at-if1.true k counted at_at.result.now at_at.ensures at-is-irreversible.result
    at-is-irreversible.ensures c.if-is_irreversible.false in
    (omega (arith, one_more_lem acts j m at-move-at.ensures at-if1.true), sym passed ∙ was)

pub loop-i-preserved : goal.loop-i-preserved
loop-i-preserved c =
    let a = c.args in
    let at-loop = c.loop-i in
    let at-loop-test = c.loop-i-test in
    let at-move-at = c.move_at-m in
    let acts = a.acts.now in
    let ps = a.ps.now in
    let j = at-loop.i - 1 in
    let e : at-loop.i ≡ j + 1 = omega (arith, at-loop-test.true) in
    let counted : at-loop.k ≡ moves_in acts (j + 1) = at-loop.invariant.0 ∙ ap (moves_in acts) e in
    let was : laws_since acts ps (j + 1) ≡ laws_since acts ps a.n = ap (laws_since acts ps) (sym e) ∙ at-loop.invariant.1 in (
      counted ∙ no_more acts j at-move-at.result at-move-at.ensures c.if-m-le-LAST_MOVE.false,
      sym
          (since_by_none acts ps j at-move-at.result at-move-at.ensures c.if-m-le-LAST_MOVE.false) ∙ was,
    )

pub returns : goal.returns
returns c =
    let a = c.args in
    let at-loop = c.loop-i in
    let e : at-loop.i ≡ 0 = omega (arith, c.loop-i-test.false) in
    sym (since_start a.acts.now a.ps.now) ∙ ap (laws_since a.acts.now a.ps.now) (sym e) ∙ at-loop.invariant.1
