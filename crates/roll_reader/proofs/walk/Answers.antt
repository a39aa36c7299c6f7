use mathlib.Core.Path.{sym, ◌∙◌}
use Rattle.std.proofs.lemmas.Result.{err_from_is_err_and}
use Rattle.roll_text.proofs.Refusals.{refusal_is}
use Rattle.roll_reader.proofs.Answers.{bad_start, record_long, no_count, over_count, at_actions, bad_actions, good_actions}
use Rattle.roll_reader.proofs.walk.Goals as goal

pub returns-in_err-half-clause-refused : goal.returns-in_err-half-clause-refused
returns-in_err-half-clause-refused c =
    let a = c.args in
    let p = err_from_is_err_and c.from_residual.result c.from_residual.ensures.1 in
    rw (p.1, p.2) (bad_start a.counted a.s.now _ _ c.read_start.ensures c.in_err-half.was)

pub returns-in_err-actions-clause-refused : goal.returns-in_err-actions-clause-refused
returns-in_err-actions-clause-refused c =
    let a = c.args in
    let p = err_from_is_err_and c.from_residual-in_err-actions.result c.from_residual-in_err-actions.ensures.1 in
    let k = refusal_is c.in_err-actions.ensures.value c.in_err-actions.ensures.ok_part in
    rw (p.1, p.2, k) (no_count a.counted a.s.now _ _ _ _ _ _ _ c.read_start.ensures c.in_ok-half.was c.rest.ensures c.rest-behind.ensures
    c.read_number.ensures c.in_err-actions.ensures.ok_part)

pub returns-then-actions-clause-refused : goal.returns-then-actions-clause-refused
returns-then-actions-clause-refused c =
    let a = c.args in
    over_count a.counted a.s.now _ _ _ _ _ _ _ c.read_start.ensures c.in_ok-half.was c.rest.ensures c.rest-behind.ensures c.read_number.ensures _ _
    c.in_ok-actions.ensures.ok_part c.if-actions.true

pub returns-in_err-judge_actions-clause-refused : goal.returns-in_err-judge_actions-clause-refused
returns-in_err-judge_actions-clause-refused c =
    let a = c.args in
    let p = err_from_is_err_and c.from_residual-in_err-judge_actions.result c.from_residual-in_err-judge_actions.ensures.1 in
    let j = at_actions a.counted a.s.now _ _ _ _ _ _ _ c.read_start.ensures c.in_ok-half.was c.rest.ensures c.rest-behind.ensures
    c.read_number.ensures _ _ _ c.in_ok-actions.ensures.ok_part c.if-actions.false c.rest-text.ensures in
    rw (p.1, p.2) (bad_actions _ _ _ _ _ j (sym c.judge_actions.ensures.check ∙ c.in_err-judge_actions.was))

pub returns-clause-accepted : goal.returns-clause-accepted
returns-clause-accepted c =
    let a = c.args in
    record {
      long = record_long a.counted a.s.now _ _ _ _ _ _ _ c.read_start.ensures c.in_ok-half.was c.rest.ensures c.rest-behind.ensures
          c.read_number.ensures;
      few = c.if-actions.false;
      reads = at_actions a.counted a.s.now _ _ _ _ _ _ _ c.read_start.ensures c.in_ok-half.was c.rest.ensures c.rest-behind.ensures
          c.read_number.ensures _ _ _ c.in_ok-actions.ensures.ok_part c.if-actions.false c.rest-text.ensures;
      actions = good_actions _ (sym c.judge_actions.ensures.check ∙ c.in_ok-judge_actions.was);
    }
