-- `act` of lib.rt meets its contract: r ≡ other_counts (other_answer (now acts.entry) (now ps.entry) n m action) n m; now acts.exit ≡ other_actions
-- (other_answer (now acts.entry) (now ps.entry) n m action) (now acts.entry) n action.
use native.Mathlib.Omega.{arith}
use mathlib.Core.Path.{sym, ◌∙◌}
use Rattle.game.proofs.Answers.{other_found}
use Rattle.game.proofs.Ways as ways
use Rattle.game.proofs.act.Goals as goal

pub returns-in-Err : goal.returns-in-Err
returns-in-Err c =
    let a = c.args in
    let f = ways.refused_of _ _ (sym c.other_answer.ensures ∙ c.in-Err.is) in
    let whole = ways.other_refused _ a.n a.m a.acts.now a.action c.counts.result _ f.0 f.1 c.counts.ensures in record
    { counts = whole.0; actions = whole.1 }

pub put_action-requires : goal.put_action-requires
put_action-requires c =
    let a = c.args in
    let f = other_found a.acts.now a.ps.now a.n a.m a.action (ways.passed_of _ _ (sym c.other_answer.ensures ∙ c.in_default.is)) in
    (f.room, f.check)

pub overflow_add-n : goal.overflow_add-n
overflow_add-n c =
    let a = c.args in
    let f = other_found a.acts.now a.ps.now a.n a.m a.action (ways.passed_of _ _ (sym c.other_answer.ensures ∙ c.in_default.is)) in
    omega (arith, f.few)

pub returns : goal.returns
returns c =
    let a = c.args in
    let whole = ways.other_accepted _ a.n a.m a.acts.now a.action c.counts-2.result _
    (ways.passed_of _ _ (sym c.other_answer.ensures ∙ c.in_default.is)) c.counts-2.ensures c.put_action.ensures in record
    { counts = whole.0; actions = whole.1 }
