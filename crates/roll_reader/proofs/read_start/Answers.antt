-- `read_start` of lib.rt meets its contract: Started counted (now s.entry) r.
use mathlib.Core.Path.{sym, ◌∙◌}
use Rattle.std.proofs.lemmas.Result.{err_from_is_err_and}
use Rattle.roll_reader.proofs.Answers.{bad_record, good_record}
use Rattle.roll_reader.proofs.read_start.Goals as goal

pub returns-in_err-judge_record : goal.returns-in_err-judge_record
returns-in_err-judge_record c =
    let a = c.args in
    let p = err_from_is_err_and c.from_residual.result c.from_residual.ensures.1 in
    rw (p.1, p.2) (bad_record a.counted a.s.now _ (sym c.judge_record.ensures.check ∙ c.in_err-judge_record.was))

pub returns : goal.returns
returns c =
    let a = c.args in
    good_record a.counted a.s.now _ _ (sym c.judge_record.ensures.check ∙ c.in_ok-judge_record.was) c.rest.ensures c.read_counters.ensures
