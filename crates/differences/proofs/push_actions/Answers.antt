use mathlib.Core.Path.{ap, sym, ◌∙◌}
use native.Mathlib.Omega.{arith}
use Rattle.differences_text.specs.Promises.{longest}
use Rattle.differences.specs.CodeEntries.{entry_size, entry_number}
use Rattle.differences.proofs.Acts.{ended_at, searched_more, searched_same, differ_here, second_ended, first_ended, both_ended}
use Rattle.differences.proofs.Acts.{here_fits, here_put}
use Rattle.differences.proofs.push_actions.Goals as goal

pub push_action-requires : goal.push_action-requires
push_action-requires c =
    let a = c.args in
    let at_pre = c.requires in
    let at-loop = c.loop-i in
    let at-loop-test = c.loop-i-test in
    let at_rest = c.rest-left in
    let at-if1 = c.if-other-i in
    here_fits a.counted a.first.now a.other a.second.now a.text.now at-loop.text at-loop.at at-loop.to at-loop.i
    at-loop.invariant longest _ (second_ended a.counted a.first.now a.other a.second.now a.text.now at-loop.text at-loop.at
    at-loop.to at-loop.i at-loop.invariant c.entry_number.result _ at-loop-test.true at-if1.true at_rest.ensures c.entry_number.ensures)
    at_pre.text_in_bounds

pub returns-then-other-i : goal.returns-then-other-i
returns-then-other-i c =
    let a = c.args in
    let at-loop = c.loop-i in
    let at-loop-test = c.loop-i-test in
    let at_rest = c.rest-left in
    let at-if1 = c.if-other-i in
    let at-entry-number = c.entry_number in
    let at-push-action = c.push_action in
    here_put a.counted a.first.now a.other a.second.now a.text.now at-loop.text at-loop.at at-loop.to at-loop.i at-loop.invariant
    _ at-push-action.new.text (second_ended a.counted a.first.now a.other a.second.now a.text.now
    at-loop.text at-loop.at at-loop.to at-loop.i at-loop.invariant at-entry-number.result _ at-loop-test.true at-if1.true
    at_rest.ensures at-entry-number.ensures) at-push-action.ensures

pub loop-i-preserved-in-Some : goal.loop-i-preserved-in-Some
loop-i-preserved-in-Some c =
    let a = c.args in
    let at-loop = c.loop-i in
    let at-loop-test = c.loop-i-test in
    let at_rest = c.rest-left in
    let at-if1 = c.if-other-i in
    let at-rest2 = c.rest-against in
    searched_same a.counted a.first.now a.other a.second.now a.text.now at-loop.text at-loop.at at-loop.to at-loop.i
    at-loop.invariant c.in-Some.same _ _ at-loop-test.true at-if1.false at_rest.ensures at-rest2.ensures c.in-Some.ensures.size
    c.in-Some.ensures.most

pub push_action-requires-then-x-y : goal.push_action-requires-then-x-y
push_action-requires-then-x-y c =
    let a = c.args in
    let at_pre = c.requires in
    let at-loop = c.loop-i in
    let at-loop-test = c.loop-i-test in
    let at_rest = c.rest-left in
    let at-if1 = c.if-other-i in
    let at-rest2 = c.rest-against in
    let at-entry-number2 = c.entry_number-x in
    let at-entry-number3 = c.entry_number-y in
    let at-if3 = c.if-x-y in
    here_fits a.counted a.first.now a.other a.second.now a.text.now at-loop.text at-loop.at at-loop.to at-loop.i
    at-loop.invariant longest _ (differ_here a.counted a.first.now a.other a.second.now a.text.now at-loop.text at-loop.at at-loop.to
    at-loop.i at-loop.invariant at-entry-number2.result at-entry-number3.result _ _ at-loop-test.true at-if1.false at_rest.ensures
    at-rest2.ensures at-entry-number2.ensures at-entry-number3.ensures at-if3.true) at_pre.text_in_bounds

pub returns-then-x-y : goal.returns-then-x-y
returns-then-x-y c =
    let a = c.args in
    let at-loop = c.loop-i in
    let at-loop-test = c.loop-i-test in
    let at_rest = c.rest-left in
    let at-if1 = c.if-other-i in
    let at-rest2 = c.rest-against in
    let at-entry-number2 = c.entry_number-x in
    let at-entry-number3 = c.entry_number-y in
    let at-if3 = c.if-x-y in
    let at-push-action2 = c.push_action-then-x-y in
    here_put a.counted a.first.now a.other a.second.now a.text.now at-loop.text at-loop.at at-loop.to at-loop.i at-loop.invariant _ at-push-action2.new.text
    (differ_here a.counted a.first.now a.other a.second.now a.text.now at-loop.text at-loop.at at-loop.to at-loop.i
    at-loop.invariant at-entry-number2.result at-entry-number3.result _ _ at-loop-test.true at-if1.false at_rest.ensures at-rest2.ensures
    at-entry-number2.ensures at-entry-number3.ensures at-if3.true) at-push-action2.ensures

pub loop-i-preserved : goal.loop-i-preserved
loop-i-preserved c =
    let a = c.args in
    let at-loop = c.loop-i in
    let at-loop-test = c.loop-i-test in
    let at_rest = c.rest-left in
    let at-if1 = c.if-other-i in
    let at-rest2 = c.rest-against in
    let at-entry-number2 = c.entry_number-x in
    let at-entry-number3 = c.entry_number-y in
    let at-if3 = c.if-x-y in
    let at-entry-size = c.entry_size-at in
    searched_more a.counted a.first.now a.other a.second.now a.text.now at-loop.text at-loop.at at-loop.to at-loop.i
    at-loop.invariant at-entry-size.result c.entry_size-to.result at-loop-test.true at-if1.false
    (at-entry-size.ensures.0 ∙ ap entry_size at_rest.ensures) (c.entry_size-to.ensures.0 ∙ ap entry_size at-rest2.ensures) at-entry-size.ensures.1
    c.entry_size-to.ensures.1 (ap entry_number (sym at_rest.ensures) ∙ sym at-entry-number2.ensures ∙ at-if3.false ∙ at-entry-number3.ensures ∙ ap
    entry_number at-rest2.ensures)

pub push_action-requires-then-counted-other : goal.push_action-requires-then-counted-other
push_action-requires-then-counted-other c =
    let a = c.args in
    let l = c.loop-i in
    let ended = ended_at a.counted a.first.now a.other a.second.now a.text.now l.text l.at l.to l.i l.invariant c.loop-i-test.false in
    here_fits a.counted a.first.now a.other a.second.now a.text.now l.text l.at l.to a.counted ended longest _
    (first_ended a.counted a.first.now a.other a.second.now a.text.now l.text l.at l.to a.counted ended c.entry_number-then-counted-other.result _
    (omega arith) c.if-counted-other.true c.rest.ensures c.entry_number-then-counted-other.ensures) c.requires.text_in_bounds

pub returns-then-counted-other : goal.returns-then-counted-other
returns-then-counted-other c =
    let a = c.args in
    let l = c.loop-i in
    let p = c.push_action-then-counted-other in
    let ended = ended_at a.counted a.first.now a.other a.second.now a.text.now l.text l.at l.to l.i l.invariant c.loop-i-test.false in
    here_put a.counted a.first.now a.other a.second.now a.text.now l.text l.at l.to a.counted ended _ p.new.text
    (first_ended a.counted a.first.now a.other a.second.now a.text.now l.text l.at l.to a.counted ended c.entry_number-then-counted-other.result _
    (omega arith) c.if-counted-other.true c.rest.ensures c.entry_number-then-counted-other.ensures) p.ensures

pub returns-else-counted-other : goal.returns-else-counted-other
returns-else-counted-other c =
    let a = c.args in
    let l = c.loop-i in
    let ended = ended_at a.counted a.first.now a.other a.second.now a.text.now l.text l.at l.to l.i l.invariant c.loop-i-test.false in
    both_ended a.counted a.first.now a.other a.second.now a.text.now l.text l.at l.to a.counted ended (omega arith) c.if-counted-other.false
