-- `claim_in` of lib.rt meets its contract: s ≡ claim_in (now ps.entry) m r.
use borrow.Author.Tests.{le-leb}
use mathlib.Core.Path.{sym, ◌∙◌}
use native.Mathlib.Omega.{arith}
use Rattle.claim.proofs.Runs.{claim_by_count, claim_by_run}
use Rattle.claim.proofs.claim_in.Goals as goal

pub returns-then-moves_since-ge-CLAIM_COUNT : goal.returns-then-moves_since-ge-CLAIM_COUNT
returns-then-moves_since-ge-CLAIM_COUNT c =
    let a = c.args in
    let at-moves-since = c.moves_since in
    le-leb _ _ c.if-moves_since-ge-CLAIM_COUNT.true
    ∙ sym (claim_by_count a.ps.now a.m a.r (omega (arith, c.if-moves_since-ge-CLAIM_COUNT.true, at-moves-since.ensures)))

pub returns-else-moves_since-ge-CLAIM_COUNT : goal.returns-else-moves_since-ge-CLAIM_COUNT
returns-else-moves_since-ge-CLAIM_COUNT c =
    let a = c.args in
    let at-moves-since = c.moves_since in
    let at-if1 = c.if-moves_since-ge-CLAIM_COUNT in
    c.equals_two_earlier.ensures ∙ sym (claim_by_run a.ps.now a.m a.r (omega (arith, at-if1.false, at-moves-since.ensures)))
