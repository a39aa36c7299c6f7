-- `by_last_action` of lib.rt meets its contract: r ≡ result_of_action (last_action (now acts.entry) n).
use mathlib.Core.Path.{ap, sym, ◌∙◌}
use native.Mathlib.Omega.{arith}
use Rattle.ending.specs.Ending.{result_of_action}
use Rattle.ending.proofs.FirstByte.{begun_goes_on, past_goes_on, first_byte_goes_on}
use Rattle.ending.proofs.by_last_action.Goals as goal

pub returns-then-n-eq0 : goal.returns-then-n-eq0
returns-then-n-eq0 c = sym (begun_goes_on c.args.acts.now c.args.n c.if-n-eq0.true)

pub returns-then-acts-n : goal.returns-then-acts-n
returns-then-acts-n c =
    let a = c.args in
    sym (past_goes_on a.acts.now a.n (omega (arith, c.if-acts-n.true)))

pub returns-then-acts-n-le-OFFER : goal.returns-then-acts-n-le-OFFER
returns-then-acts-n-le-OFFER c =
    let a = c.args in
    let at-if1 = c.if-n-eq0 in
    sym (first_byte_goes_on a.acts.now a.n at-if1.false (omega (arith, c.if-acts-n-le-OFFER.true)))

pub returns : goal.returns
returns c = c.by_last.ensures ∙ ap result_of_action c.last.ensures
