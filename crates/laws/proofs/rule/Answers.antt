-- `rule` of lib.rt meets its contract: r ≡ ruled_on (history_of (now acts.entry) (now ps.entry) n).
use mathlib.Core.Path.{ap, ◌∙◌}
use Prim.Native.Nat.{ℕ}
use lib.Dec.{eqb}
use Rattle.claim.specs.CodeBack.{run_begun_by}
use Rattle.claim.proofs.Back.{run_is_begun}
use Rattle.laws.specs.CodeSince.{laws_since}
use Rattle.laws.proofs.Back.{since_begun}
use Rattle.laws.proofs.Shown.{ruled_by}
use Rattle.laws.proofs.rule.Goals as goal

pub returns : goal.returns
returns c =
    let a = c.args in
    let at_pre = c.requires in
    let at-begun-by = c.begun_by-begun in
    let at-run-begun = c.run_begun-run in
    let at-moves-since = c.moves_since-count in
    let at-since = c.since-laws in
    let at-moves-since2 = c.moves_since-laws_count in
    let at-equal-places = c.equal_places-places in
    let at-result = c.result-going in
    let at-reason = c.reason-claim in
    let acts = a.acts.now in
    let ps = a.ps.now in
    let n = a.n in
    let run = at-run-begun.ensures ∙ ap (run_begun_by acts) at-begun-by.ensures ∙ run_is_begun acts ps n in
    let laws = at-since.ensures ∙ ap (laws_since acts ps) at-begun-by.ensures ∙ since_begun acts ps n in
    let goes = ap (λ (k : ℕ). eqb k 0) at-result.ensures in
    ruled_by acts ps n a.m (at_pre)
    at-run-begun.result at-since.result at-moves-since.result at-moves-since2.result at-equal-places.result (eqb at-result.result 0)
    at-reason.result c.reason-laws_claim.result run laws at-moves-since.ensures at-moves-since2.ensures
    at-equal-places.ensures goes at-reason.ensures c.reason-laws_claim.ensures
