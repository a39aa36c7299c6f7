-- `sole_source` of gathering.rt meets its contract: r ≡ sole_from standard (now pieces.entry) t fit source.
use borrow.Author.Tests.{eq-eqb, ne_eqb}
use Rattle.san.specs.CodeGathered.{sole_from}
use Rattle.san.proofs.Captures.{kind_here}
use Rattle.san.proofs.gathering.sole_source.Goals as goal

pub returns-then-fit-ne1 : goal.returns-then-fit-ne1
unfolding sole_from
returns-then-fit-ne1 c = simp (ne_eqb _ _ c.if-fit-ne1.true, c.refused.ensures)

pub captures-requires : goal.captures-requires
captures-requires c =
    let a = c.args in
    let at_pre = c.requires in
    let at-if1 = c.if-fit-ne1 in
    kind_here a.pieces.now a.t a.t.dest a.source (at_pre at-if1.false)

pub returns-then-not-captures : goal.returns-then-not-captures
unfolding sole_from
returns-then-not-captures c =
    let at-if1 = c.if-fit-ne1 in
    let at-captures = c.captures-2 in
    let at-if2 = c.if-not-captures in
    simp (eq-eqb _ _ at-if1.false, ← at-captures.ensures, at-if2.true, c.refused-then-not-captures.ensures)

pub returns : goal.returns
unfolding sole_from
returns c =
    let at-if1 = c.if-fit-ne1 in
    let at-captures = c.captures-2 in
    let at-if2 = c.if-not-captures in
    simp (eq-eqb _ _ at-if1.false, ← at-captures.ensures, at-if2.false, c.accepted.ensures)
