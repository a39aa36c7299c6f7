-- `result` of lib.rt meets its contract: r ≡ result_answer limits (now acts.entry) (now ps.entry) n m.
use Rattle.game_rules.specs.Limits.{limits}
use Rattle.game_rules.specs.Rules.{result}
use Rattle.game_rules.specs.Good.{history_of}
use Rattle.game_rules.specs.Calls.{log_check, result_answer}
use Rattle.game.proofs.Ways as ways
use Rattle.game.proofs.result.Goals as goal

pub returns-then-number-ne-ACCEPTED : goal.returns-then-number-ne-ACCEPTED
unfolding result_answer
returns-then-number-ne-ACCEPTED c =
    let a = c.args in
    let at-check = c.check-number in
    ways.told_refused (log_check limits a.acts.now a.ps.now a.n a.m) at-check.result (result (history_of a.acts.now a.ps.now a.n))
    c.refused.result at-check.ensures c.if-number-ne-ACCEPTED.true c.refused.ensures

pub returns : goal.returns
returns c =
    let a = c.args in
    let at-check = c.check-number in
    let at-if1 = c.if-number-ne-ACCEPTED in
    let at-result = c.result in
    ways.result_told_lem a.acts.now a.ps.now a.n a.m at-check.result at-result.result c.accepted.result at-check.ensures
    at-result.ensures at-if1.false c.accepted.ensures
