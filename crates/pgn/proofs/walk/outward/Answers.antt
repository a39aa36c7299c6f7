use mathlib.Core.Path.{sym, ◌∙◌}
use native.Mathlib.Omega.{arith}
use Rattle.pgn.proofs.Walkers.{out_end, out_open, out_stray, out_more}
use Rattle.pgn.proofs.walk.outward.Goals as goal

pub returns-then-inside-eq0 : goal.returns-then-inside-eq0
returns-then-inside-eq0 c =
    let a = c.args in
    let l = c.loop-end in
    let q = c.in-Ok.ensures in
    sym (l.invariant.3 ∙ out_end a.s.now a.stop a.offset l.inside l.at l.count _ _ q.0 c.if-s-end.true c.if-inside-eq0.true)

pub returns-then-s-end : goal.returns-then-s-end
returns-then-s-end c =
    let a = c.args in
    let l = c.loop-end in
    let q = c.in-Ok.ensures in
    sym (l.invariant.3 ∙ out_open a.s.now a.stop a.offset l.inside l.at l.count _ _ q.0 c.if-s-end.true c.if-inside-eq0.false)

pub returns-then-inside-eq0-2 : goal.returns-then-inside-eq0-2
returns-then-inside-eq0-2 c =
    let a = c.args in
    let l = c.loop-end in
    let q = c.in-Ok.ensures in
    let h = c.if-s-end.false in
    sym (l.invariant.3 ∙ out_stray a.s.now a.stop a.offset l.inside l.at l.count _ _ q.0 h (q.1 h) c.if-inside-eq0-2.true)

pub loop-end-preserved : goal.loop-end-preserved
loop-end-preserved c =
    let a = c.args in
    let l = c.loop-end in
    let q = c.in-Ok.ensures in
    let h = c.if-s-end.false in (
      omega (arith, h),
      omega (arith, l.invariant.1),
      omega (arith, q.0.counted),
      l.invariant.3 ∙ out_more a.s.now a.stop a.offset l.inside l.at l.count _ _ q.0 h (q.1 h) c.if-inside-eq0-2.false,
    )
