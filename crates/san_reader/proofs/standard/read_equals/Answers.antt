-- `read_equals` of standard.rt meets its contract: r ≡ standard_promotion kind file rank takes square (now s.entry).
use borrow.Author.Tests.{eq-eqb, ne_eqb}
use Rattle.san_text.specs.Standard.{standard_promotion}
use Rattle.san_reader.proofs.standard.read_equals.Goals as goal

pub returns-then-byte_at-ne61 : goal.returns-then-byte_at-ne61
unfolding standard_promotion
returns-then-byte_at-ne61 c = simp (← c.byte_at.ensures, ne_eqb _ _ c.if-byte_at-ne61.true, c.read_mark.ensures)

pub returns-then-promotion-eq0 : goal.returns-then-promotion-eq0
unfolding standard_promotion
returns-then-promotion-eq0 c =
    let at-byte-at = c.byte_at in
    let at-if1 = c.if-byte_at-ne61 in
    let at-byte-at2 = c.byte_at-2 in
    let at-promotion-kind = c.promotion_kind-promotion in
    simp (← at-byte-at.ensures, eq-eqb _ _ at-if1.false, ← at-byte-at2.ensures, ← at-promotion-kind.ensures, eq-eqb _ _ c.if-promotion-eq0.true)

pub returns : goal.returns
unfolding standard_promotion
returns c =
    let at-byte-at = c.byte_at in
    let at-if1 = c.if-byte_at-ne61 in
    let at-byte-at2 = c.byte_at-2 in
    let at-promotion-kind = c.promotion_kind-promotion in
    let at-if2 = c.if-promotion-eq0 in
    let at_rest = c.rest in
    simp (
      ← at-byte-at.ensures,
      eq-eqb _ _ at-if1.false,
      ← at-byte-at2.ensures,
      ← at-promotion-kind.ensures,
      ne_eqb _ _ at-if2.false,
      c.read_mark-2.ensures,
      at_rest.ensures,
    )
