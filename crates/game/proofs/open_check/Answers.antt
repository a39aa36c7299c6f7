-- `open_check` of lib.rt meets its contract: r ≡ check_of (open_check (now acts.entry) (now ps.entry) n m).
use mathlib.Core.Path.{◌≡◌}
use native.Mathlib.Omega.{arith}
use Rattle.answer.specs.Answer.{game_over}
use Rattle.game.proofs.Ways as ways
use Rattle.game.proofs.open_check.Goals as goal

pub returns-then-log-ne-ACCEPTED : goal.returns-then-log-ne-ACCEPTED
returns-then-log-ne-ACCEPTED c =
    let a = c.args in
    let some : c.check-log.result ≡ 0 → ⊥ = λ z. omega (arith, z, c.if-log-ne-ACCEPTED.true) in
    ways.err_of _ _ (ways.open_refused a.acts.now a.ps.now a.n a.m c.check-log.result c.check-log.ensures some) some

pub returns-then-result-ne-GOES_ON : goal.returns-then-result-ne-GOES_ON
returns-then-result-ne-GOES_ON c =
    let a = c.args in
    let at-check = c.check-log in
    let at-if1 = c.if-log-ne-ACCEPTED in
    let at-result = c.result in
    ways.err_of _ game_over
    (ways.open_ended a.acts.now a.ps.now a.n a.m at-check.result at-check.ensures at-result.result (omega (arith, at-if1.false))
    at-result.ensures c.if-result-ne-GOES_ON.true) (λ z. omega (arith, z))

pub returns : goal.returns
returns c =
    let a = c.args in
    let at-check = c.check-log in
    let at-if1 = c.if-log-ne-ACCEPTED in
    let at-result = c.result in
    ways.ok_of _
    (ways.open_passed a.acts.now a.ps.now a.n a.m at-check.result at-check.ensures at-result.result (omega (arith, at-if1.false))
    at-result.ensures c.if-result-ne-GOES_ON.false)
