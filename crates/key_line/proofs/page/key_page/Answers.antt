use borrow.Author.Rules.{rules}
use mathlib.Core.Bool.{not}
use Prim.Native.Nat.{◌-◌, ◌<◌}
use native.Mathlib.Omega.{arith}
use lib.ListN.{length}
use Rattle.key_line.proofs.Going.{none_yet, none_goes, left_unended, page_answer, page_room, counts_fit, at_most_one, one_more_lem}
use Rattle.key_line.proofs.page.key_page.Goals as goal

pub loop-out-init : goal.loop-out-init
loop-out-init c = none_yet c.args.text.now c.args.out.now

pub returns-then-text-end : goal.returns-then-text-end
returns-then-text-end c =
    let a = c.args in
    let at-loop = c.loop-out in
    let at-line-end = c.line_end-end in
    let none = left_unended a.text.now at-loop.taken at-line-end.result (length a.out.now - at-loop.ready) at-loop.invariant.inside
    at-line-end.ensures c.if-text-end.true in
    record {
      answer = page_answer a.text.now a.out.now at-loop.out at-loop.taken at-loop.ready at-loop.accepted at-loop.refused at-loop.invariant none;
      bytes = page_room a.text.now a.out.now at-loop.out at-loop.taken at-loop.ready at-loop.accepted at-loop.refused at-loop.invariant none;
      within = (at-loop.invariant.inside, at-loop.invariant.within);
    }

pub overflow_add-accepted : goal.overflow_add-accepted
overflow_add-accepted c =
    let a = c.args in
    let long : length a.text.now < 18446744073709551616 = search rules in
    let at-loop = c.loop-out in
    let at-put-line = c.put_line-put in
    let fit = counts_fit a.text.now a.out.now at-loop.out at-loop.taken at-loop.ready at-loop.accepted at-loop.refused
    c.line_end-end.result at-put-line.result at-put-line.new.out at-loop.invariant c.loop-out-test.true c.line_end-end.ensures
    (omega (arith, c.if-text-end.false)) at-put-line.ensures.answer at-put-line.ensures.short at-put-line.ensures.bytes in
    omega (arith, fit.0, c.from-accepted.ensures, at_most_one at-put-line.result.accepted)

pub overflow_add-refused : goal.overflow_add-refused
overflow_add-refused c =
    let a = c.args in
    let long : length a.text.now < 18446744073709551616 = search rules in
    let at-loop = c.loop-out in
    let at-put-line = c.put_line-put in
    let fit = counts_fit a.text.now a.out.now at-loop.out at-loop.taken at-loop.ready at-loop.accepted at-loop.refused
    c.line_end-end.result at-put-line.result at-put-line.new.out at-loop.invariant c.loop-out-test.true c.line_end-end.ensures
    (omega (arith, c.if-text-end.false)) at-put-line.ensures.answer at-put-line.ensures.short at-put-line.ensures.bytes in
    omega (arith, fit.1, c.from-refused.ensures, at_most_one (not at-put-line.result.accepted))

pub loop-out-preserved : goal.loop-out-preserved
loop-out-preserved c =
    let a = c.args in
    let at-loop = c.loop-out in
    let at-loop-test = c.loop-out-test in
    let at-line-end = c.line_end-end in
    let at-if1 = c.if-text-end in
    let at-put-line = c.put_line-put in
    one_more_lem a.text.now a.out.now at-loop.out at-loop.taken at-loop.ready at-loop.accepted at-loop.refused at-line-end.result
    at-put-line.result at-put-line.new.out at-loop.invariant at-loop-test.true at-line-end.ensures (omega (arith, at-if1.false))
    at-put-line.ensures.answer at-put-line.ensures.short at-put-line.ensures.bytes _ _ c.from-accepted.ensures c.from-refused.ensures

pub returns : goal.returns
returns c =
    let a = c.args in
    let at-loop = c.loop-out in
    let none = none_goes (length a.out.now - at-loop.ready) _ (omega (arith, c.loop-out-test.false, at-loop.invariant.long)) in
    record {
      answer = page_answer a.text.now a.out.now at-loop.out at-loop.taken at-loop.ready at-loop.accepted at-loop.refused at-loop.invariant none;
      bytes = page_room a.text.now a.out.now at-loop.out at-loop.taken at-loop.ready at-loop.accepted at-loop.refused at-loop.invariant none;
      within = (at-loop.invariant.inside, at-loop.invariant.within);
    }
