-- `differences` of lib.rt meets its contract: r ≡ differences_answer limits (now first.entry) (now second.entry) (length (now out.entry)); now (out
-- .exit) ≡ differences_room limits (now first.entry) (now second.entry) (now out.entry).
use Rattle.std.proofs.Common.{rules}
use mathlib.Core.Path.{sym, ◌∙◌}
use Rattle.differences.proofs.Whole.{number_told, known, two_groups_lem, starts_asked, long_enough, few, counters_asked, start_put, action_asked, whole_answer}
use Rattle.differences.proofs.Whole.{same_answer, first_refused, second_refused}
use Rattle.differences.proofs.differences.Goals as goal

pub returns-then-game-ne-ACCEPTED : goal.returns-then-game-ne-ACCEPTED
returns-then-game-ne-ACCEPTED c =
    let a = c.args in
    let at-check = c.check-game in
    let at-if1 = c.if-game-ne-ACCEPTED in
    let whole = first_refused a.first.now a.second.now a.out.now at-check.result.number c.refused.result c.refused.ensures at-if1.true
    (number_told a.first.now at-check.result at-check.ensures) in record { answer = whole.0; bytes = whole.1 }

pub returns-then-same_bytes : goal.returns-then-same_bytes
returns-then-same_bytes c =
    let a = c.args in
    let at-check = c.check-game in
    let at-if1 = c.if-game-ne-ACCEPTED in
    let at-same-bytes = c.same_bytes in
    let at-if2 = c.if-same_bytes in
    let whole = same_answer a.first.now a.second.now a.out.now c.accepted.result c.accepted.ensures (sym at-same-bytes.ensures ∙ at-if2.true)
    (sym (number_told a.first.now at-check.result at-check.ensures) ∙ at-if1.false) in record { answer = whole.0; bytes = whole.1 }

pub returns-then-other-ne-ACCEPTED : goal.returns-then-other-ne-ACCEPTED
returns-then-other-ne-ACCEPTED c =
    let a = c.args in
    let at-check = c.check-game in
    let at-if1 = c.if-game-ne-ACCEPTED in
    let at-check2 = c.check-other in
    let at-if3 = c.if-other-ne-ACCEPTED in
    let whole = second_refused a.first.now a.second.now a.out.now at-check.result.number at-check2.result.number c.refused-then-other-ne-ACCEPTED.result
    c.refused-then-other-ne-ACCEPTED.ensures at-if3.true (number_told a.first.now at-check.result at-check.ensures) at-if1.false
    (number_told a.second.now at-check2.result at-check2.ensures) in record { answer = whole.0; bytes = whole.1 }

pub push_starts-requires : goal.push_starts-requires
push_starts-requires c =
    let a = c.args in
    let g = c.check-game in
    let h = c.check-other in
    let one = known a.first.now g.result g.ensures (λ j. search rules) c.if-game-ne-ACCEPTED.false in
    let two = known a.second.now h.result h.ensures (λ j. search rules) c.if-other-ne-ACCEPTED.false in
    record {
      record_size_in_bounds = long_enough a.first.now a.second.now g.result h.result one two;
      text_in_bounds = starts_asked a.first.now a.second.now g.result h.result one two _ c.new-text.ensures;
    }

pub push_counters-requires : goal.push_counters-requires
push_counters-requires c =
    let a = c.args in
    let g = c.check-game in
    let h = c.check-other in
    let one = known a.first.now g.result g.ensures (λ j. search rules) c.if-game-ne-ACCEPTED.false in
    let two = known a.second.now h.result h.ensures (λ j. search rules) c.if-other-ne-ACCEPTED.false in
    counters_asked a.first.now a.second.now g.result h.result one two _ _ c.new-text.ensures c.push_starts.ensures

pub actions_text-requires : goal.actions_text-requires
actions_text-requires c =
    let a = c.args in
    let g = c.check-game in
    two_groups_lem a.first.now g.result (known a.first.now g.result g.ensures (λ j. search rules) c.if-game-ne-ACCEPTED.false)

pub actions_text-requires-2 : goal.actions_text-requires-2
actions_text-requires-2 c =
    let a = c.args in
    let h = c.check-other in
    two_groups_lem a.second.now h.result (known a.second.now h.result h.ensures (λ j. search rules) c.if-other-ne-ACCEPTED.false)

pub push_actions-requires : goal.push_actions-requires
push_actions-requires c =
    let a = c.args in
    let g = c.check-game in
    let h = c.check-other in
    let one = known a.first.now g.result g.ensures (λ j. search rules) c.if-game-ne-ACCEPTED.false in
    let two = known a.second.now h.result h.ensures (λ j. search rules) c.if-other-ne-ACCEPTED.false in
    let begun = start_put a.first.now a.second.now g.result h.result one two _ _ c.new-text.ensures c.push_starts.ensures _ c.push_counters.ensures in
    record {
      counted_bound = few a.first.now a.second.now g.result h.result one two;
      text_in_bounds =
          action_asked a.first.now a.second.now g.result h.result one two _ _ c.actions_text.ensures c.actions_text-2.ensures _ begun;
    }

pub returns : goal.returns
returns c =
    let a = c.args in
    let g = c.check-game in
    let h = c.check-other in
    let one = known a.first.now g.result g.ensures (λ j. search rules) c.if-game-ne-ACCEPTED.false in
    let two = known a.second.now h.result h.ensures (λ j. search rules) c.if-other-ne-ACCEPTED.false in
    let begun = start_put a.first.now a.second.now g.result h.result one two _ _ c.new-text.ensures c.push_starts.ensures _ c.push_counters.ensures in
    let written = c.write_text in
    let whole = whole_answer a.first.now a.second.now g.result h.result one two _ _ c.actions_text.ensures c.actions_text-2.ensures _ begun
    _ (c.as_bytes.ensures ∙ c.push_actions.ensures) (sym (number_told a.first.now g.result g.ensures) ∙ c.if-game-ne-ACCEPTED.false)
    (sym (number_told a.second.now h.result h.ensures) ∙ c.if-other-ne-ACCEPTED.false) a.out.now written.new.out written.result
    written.ensures.answer written.ensures.bytes in record { answer = whole.0; bytes = whole.1 }
