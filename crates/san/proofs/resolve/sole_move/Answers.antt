-- `sole_move` of resolve.rt meets its contract: r ≡ sole_move standard (now pieces.entry) t (now moves.entry).
use borrow.Author.Tests.{eq-eqb, ne_eqb}
use mathlib.Core.Path.{sym, ◌∙◌}
use Rattle.san_text.specs.Resolve.{sole_that}
use Rattle.san.proofs.Captures.{sole_kind}
use Rattle.san.proofs.resolve.sole_move.Goals as goal

pub returns-then-f-ne1 : goal.returns-then-f-ne1
unfolding sole_that
returns-then-f-ne1 c = simp (← c.count_fits-f.ensures.counts, ne_eqb _ _ c.if-f-ne1.true, c.refused.ensures)

pub captures-requires : goal.captures-requires
captures-requires c =
    let a = c.args in
    let at-count-fits = c.count_fits-f in
    rw at-count-fits.ensures.first (sole_kind a.pieces.now a.t a.moves.now (sym at-count-fits.ensures.counts ∙ c.if-f-ne1.false))

pub returns-then-not-captures : goal.returns-then-not-captures
unfolding sole_that
returns-then-not-captures c =
    let at-count-fits = c.count_fits-f in
    let at-if1 = c.if-f-ne1 in
    let at-captures = c.captures-2 in
    let at-if2 = c.if-not-captures in
    simp (
      ← at-count-fits.ensures.counts,
      ← at-count-fits.ensures.first,
      eq-eqb _ _ at-if1.false,
      ← at-captures.ensures,
      at-if2.true,
      c.refused-then-not-captures.ensures,
    )

pub returns : goal.returns
unfolding sole_that
returns c =
    let at-count-fits = c.count_fits-f in
    let at-if1 = c.if-f-ne1 in
    let at-captures = c.captures-2 in
    let at-if2 = c.if-not-captures in
    simp (
      ← at-count-fits.ensures.counts,
      ← at-count-fits.ensures.first,
      eq-eqb _ _ at-if1.false,
      ← at-captures.ensures,
      at-if2.false,
      c.accepted.ensures,
    )
