-- `stands` of lib.rt meets its contract: r ≡ claim_at (now acts.entry) (now ps.entry) n m.
use mathlib.Core.Path.{ap, sym, ◌∙◌}
use native.Mathlib.Omega.{arith}
use Rattle.claim.specs.Claim.{claim_in}
use Rattle.claim.specs.CodeBack.{run_begun_by}
use Rattle.claim.proofs.Back.{run_is_begun}
use Rattle.claim.proofs.Runs.{not_there, there}
use Rattle.claim.proofs.stands.Goals as goal

pub returns-then-acts-n : goal.returns-then-acts-n
returns-then-acts-n c =
    let a = c.args in
    sym (not_there a.acts.now a.ps.now a.n a.m (omega (arith, c.if-acts-n.true)))

pub returns : goal.returns
returns c =
    let a = c.args in
    let at-if1 = c.if-acts-n in
    let at-begun-by = c.begun_by in
    let at-run-begun = c.run_begun in
    let acts = a.acts.now in
    let ps = a.ps.now in
    let run = at-run-begun.ensures ∙ ap (run_begun_by acts) at-begun-by.ensures ∙ run_is_begun acts ps a.n in
    c.claim_in.ensures ∙ ap (claim_in ps a.m) run ∙ sym (there acts ps a.n a.m (omega (arith, at-if1.false)))
