-- `stands` of lib.rt meets its contract: r ≡ laws_claim_stands (history_of (now acts.entry) (now ps.entry) n).
use mathlib.Core.Path.{ap, ◌∙◌}
use Rattle.claim.specs.CodeBack.{run_begun_by}
use Rattle.claim.proofs.Back.{run_is_begun}
use Rattle.laws.specs.CodeSince.{laws_since}
use Rattle.laws.proofs.Back.{since_begun}
use Rattle.laws.proofs.Shown.{stands_by_count, stands_by_run}
use Rattle.laws.proofs.stands.Goals as goal

pub returns-then-moves_since-ge-CLAIM_COUNT : goal.returns-then-moves_since-ge-CLAIM_COUNT
returns-then-moves_since-ge-CLAIM_COUNT c =
    let a = c.args in
    let at_pre = c.requires in
    let at-begun-by = c.begun_by-begun in
    let at-since = c.since in
    let at-moves-since = c.moves_since in
    let acts = a.acts.now in
    let ps = a.ps.now in
    let laws = at-since.ensures ∙ ap (laws_since acts ps) at-begun-by.ensures ∙ since_begun acts ps a.n in
    stands_by_count acts ps a.n a.m (at_pre) at-since.result at-moves-since.result laws at-moves-since.ensures c.if-moves_since-ge-CLAIM_COUNT.true

pub returns : goal.returns
returns c =
    let a = c.args in
    let at_pre = c.requires in
    let at-begun-by = c.begun_by-begun in
    let at-since = c.since in
    let at-moves-since = c.moves_since in
    let at-if1 = c.if-moves_since-ge-CLAIM_COUNT in
    let at-run-begun = c.run_begun-run in
    let acts = a.acts.now in
    let ps = a.ps.now in
    let n = a.n in
    let laws = at-since.ensures ∙ ap (laws_since acts ps) at-begun-by.ensures ∙ since_begun acts ps n in
    let run = at-run-begun.ensures ∙ ap (run_begun_by acts) at-begun-by.ensures ∙ run_is_begun acts ps n in
    c.equals_two_earlier.ensures
    ∙ stands_by_run acts ps n a.m (at_pre) at-since.result at-moves-since.result laws at-moves-since.ensures
    at-if1.false at-run-begun.result run
