-- `can_declare_draw` of lib.rt meets its contract: r ≡ claim_answer limits (now acts.entry) (now ps.entry) n m.
use mathlib.Core.Path.{sym, ◌∙◌}
use mathlib.Core.Bool.{true, false}
use Rattle.game_rules.specs.Limits.{limits}
use Rattle.game_rules.specs.Calls.{log_check, claim_answer}
use Rattle.game.proofs.Ways as ways
use Rattle.game.proofs.can_declare_draw.Goals as goal

pub returns-then-number-ne-ACCEPTED : goal.returns-then-number-ne-ACCEPTED
unfolding claim_answer
returns-then-number-ne-ACCEPTED c =
    let a = c.args in
    let at-check = c.check-number in
    ways.told_refused (log_check limits a.acts.now a.ps.now a.n a.m) at-check.result _ c.refused.result at-check.ensures
    c.if-number-ne-ACCEPTED.true c.refused.ensures

pub returns-then-result-ne-GOES_ON : goal.returns-then-result-ne-GOES_ON
returns-then-result-ne-GOES_ON c =
    let a = c.args in
    let at-check = c.check-number in
    let at-if1 = c.if-number-ne-ACCEPTED in
    let at-result = c.result in
    ways.claim_over a.acts.now a.ps.now a.n a.m at-check.result at-result.result c.accepted.result at-check.ensures
    at-result.ensures at-if1.false c.if-result-ne-GOES_ON.true c.accepted.ensures

pub returns-then-stands : goal.returns-then-stands
returns-then-stands c =
    let a = c.args in
    let at-check = c.check-number in
    let at-if1 = c.if-number-ne-ACCEPTED in
    let at-result = c.result in
    let at-if2 = c.if-result-ne-GOES_ON in
    let at-stands = c.stands in
    ways.claim_told a.acts.now a.ps.now a.n a.m at-check.result at-result.result c.accepted-then-stands.result at-check.ensures
    at-result.ensures at-if1.false true at-if2.false (sym c.if-stands.true ∙ at-stands.ensures) c.accepted-then-stands.ensures

pub returns : goal.returns
returns c =
    let a = c.args in
    let at-check = c.check-number in
    let at-if1 = c.if-number-ne-ACCEPTED in
    let at-result = c.result in
    let at-if2 = c.if-result-ne-GOES_ON in
    let at-stands = c.stands in
    ways.claim_told a.acts.now a.ps.now a.n a.m at-check.result at-result.result c.accepted-2.result at-check.ensures
    at-result.ensures at-if1.false false at-if2.false (sym c.if-stands.false ∙ at-stands.ensures) c.accepted-2.ensures
