-- `can_claim` of lib.rt meets its contract: r ≡ laws_answer limits (now acts.entry) (now ps.entry) n m.
use mathlib.Core.Path.{sym, ap, ◌∙◌}
use mathlib.Core.Bool.{Bool, cond}
use Prim.Native.Nat.{ℕ}
use Rattle.answer.specs.Answer.{accepted}
use Rattle.laws.proofs.Shown.{laws_refused, laws_over, laws_told}
use Rattle.laws.proofs.can_claim.Goals as goal

pub returns-then-number-ne-ACCEPTED : goal.returns-then-number-ne-ACCEPTED
returns-then-number-ne-ACCEPTED c =
    let at-args = c.args in
    let at-check = c.check-number in
    let at-if1 = c.if-number-ne-ACCEPTED in
    c.refused.ensures ∙ laws_refused at-args.acts.now at-args.ps.now at-args.n at-args.m at-check.result at-check.ensures at-if1.true

pub returns-then-result-ne-GOES_ON : goal.returns-then-result-ne-GOES_ON
returns-then-result-ne-GOES_ON c =
    let at-args = c.args in
    let at-check = c.check-number in
    let at-if1 = c.if-number-ne-ACCEPTED in
    let at-result = c.result in
    let at-if2 = c.if-result-ne-GOES_ON in
    c.accepted.ensures
    ∙ laws_over at-args.acts.now at-args.ps.now at-args.n at-args.m at-check.result at-check.ensures at-if1.false at-result.result
    at-result.ensures at-if2.true

pub returns-then-stands : goal.returns-then-stands
returns-then-stands c =
    let at-args = c.args in
    let at-check = c.check-number in
    let at-if1 = c.if-number-ne-ACCEPTED in
    let at-result = c.result in
    let at-if2 = c.if-result-ne-GOES_ON in
    let at-stands = c.stands in
    let at-if3 = c.if-stands in
    c.accepted-then-stands.ensures
    ∙ ap (λ (t : Bool). accepted (cond {A = ℕ} t 1 0)) (sym at-if3.true)
    ∙ laws_told at-args.acts.now at-args.ps.now at-args.n at-args.m at-check.result at-check.ensures at-if1.false at-result.result
    at-result.ensures at-if2.false at-stands.result at-stands.ensures

pub returns : goal.returns
returns c =
    let at-args = c.args in
    let at-check = c.check-number in
    let at-if1 = c.if-number-ne-ACCEPTED in
    let at-result = c.result in
    let at-if2 = c.if-result-ne-GOES_ON in
    let at-stands = c.stands in
    let at-if3 = c.if-stands in
    c.accepted-2.ensures
    ∙ ap (λ (t : Bool). accepted (cond {A = ℕ} t 1 0)) (sym at-if3.false)
    ∙ laws_told at-args.acts.now at-args.ps.now at-args.n at-args.m at-check.result at-check.ensures at-if1.false at-result.result
    at-result.ensures at-if2.false at-stands.result at-stands.ensures
