-- `ruling` of lib.rt meets its contract: r ≡ ruling_answer limits (now acts.entry) (now ps.entry) n m.
use mathlib.Core.Path.{◌∙◌}
use Rattle.laws.proofs.Shown.{ruling_refused, ruling_given}
use Rattle.laws.proofs.ruling.Goals as goal

pub returns-then-number-ne-ACCEPTED : goal.returns-then-number-ne-ACCEPTED
returns-then-number-ne-ACCEPTED c =
    let at-args = c.args in
    let at-check = c.check-number in
    let at-if1 = c.if-number-ne-ACCEPTED in
    c.not_ruled.ensures
    ∙ ruling_refused at-args.acts.now at-args.ps.now at-args.n at-args.m at-check.result at-check.ensures at-if1.true

pub returns : goal.returns
returns c =
    let at-args = c.args in
    let at-check = c.check-number in
    let at-if1 = c.if-number-ne-ACCEPTED in
    ruling_given at-args.acts.now at-args.ps.now at-args.n at-args.m at-check.result at-check.ensures c.rule.result at-if1.false
    c.rule.ensures
