-- `other_answer` of lib.rt meets its contract: r ≡ check_of (other_answer (now acts.entry) (now ps.entry) n m action).
use mathlib.Core.Path.{sym, ◌∙◌}
use native.Mathlib.Omega.{arith}
use Rattle.std.proofs.lemmas.Result.{err_from_is_err_and}
use Rattle.answer.specs.Answer.{log_full}
use Rattle.game.proofs.Ways as ways
use Rattle.game.proofs.other_answer.Goals as goal

pub returns-in_err-open_check : goal.returns-in_err-open_check
returns-in_err-open_check c =
    let a = c.args in
    let p = err_from_is_err_and c.from_residual.result c.from_residual.ensures.1 in
    let f = ways.refused_of _ _ (sym c.open_check.ensures ∙ c.in_err-open_check.was) in
    rw (p.1, p.2) (ways.err_of _ _ (ways.other_closed a.acts.now a.ps.now a.n a.m a.action _ f.0 f.1) f.1)

pub returns-then-own-ne-ACCEPTED : goal.returns-then-own-ne-ACCEPTED
returns-then-own-ne-ACCEPTED c =
    let a = c.args in
    let own = c.other_check-own in
    let opened = ways.passed_of _ _ (sym c.open_check.ensures ∙ c.in_ok-open_check.was) in
    let some = c.if-own-ne-ACCEPTED.true in
    ways.err_of _ _ (ways.other_own a.acts.now a.ps.now a.n a.m a.action own.result opened own.ensures some) some

pub returns-then-n-ge-MAX_ACTIONS : goal.returns-then-n-ge-MAX_ACTIONS
returns-then-n-ge-MAX_ACTIONS c =
    let a = c.args in
    let own = c.other_check-own in
    let opened = ways.passed_of _ _ (sym c.open_check.ensures ∙ c.in_ok-open_check.was) in
    ways.err_of _ log_full
    (ways.other_full a.acts.now a.ps.now a.n a.m a.action own.result opened own.ensures c.if-own-ne-ACCEPTED.false
    c.if-n-ge-MAX_ACTIONS.true) (λ z. omega (arith, z))

pub returns : goal.returns
returns c =
    let a = c.args in
    let own = c.other_check-own in
    let opened = ways.passed_of _ _ (sym c.open_check.ensures ∙ c.in_ok-open_check.was) in
    ways.ok_of _
    (ways.other_passed a.acts.now a.ps.now a.n a.m a.action own.result opened own.ensures c.if-own-ne-ACCEPTED.false
    c.if-n-ge-MAX_ACTIONS.false)
