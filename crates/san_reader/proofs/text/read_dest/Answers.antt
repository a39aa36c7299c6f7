-- `read_dest` of text.rt meets its contract: r ≡ read_dest kind file rank takes (now s.entry).
use borrow.Author.Tests.{eq-eqb, ne_eqb}
use Rattle.san_text.specs.Text.{read_dest}
use Rattle.san_reader.proofs.text.read_dest.Goals as goal

pub returns-then-square-ne0 : goal.returns-then-square-ne0
unfolding read_dest
returns-then-square-ne0 c =
    let at-square-ahead = c.square_ahead-square in
    let at-if1 = c.if-square-ne0 in
    let at_rest = c.rest in
    simp (← at-square-ahead.ensures, ne_eqb _ _ at-if1.true, c.read_promotion.ensures, at_rest.ensures)

pub returns-then-own-ne0 : goal.returns-then-own-ne0
unfolding read_dest
returns-then-own-ne0 c =
    let at-square-ahead = c.square_ahead-square in
    let at-if1 = c.if-square-ne0 in
    let at-square-at = c.square_at-own in
    let at-if2 = c.if-own-ne0 in
    simp (← at-square-ahead.ensures, eq-eqb _ _ at-if1.false, ← at-square-at.ensures, ne_eqb _ _ at-if2.true, c.read_promotion-then-own-ne0.ensures)

pub returns : goal.returns
unfolding read_dest
returns c =
    let at-square-ahead = c.square_ahead-square in
    let at-if1 = c.if-square-ne0 in
    let at-square-at = c.square_at-own in
    simp (← at-square-ahead.ensures, eq-eqb _ _ at-if1.false, ← at-square-at.ensures, eq-eqb _ _ c.if-own-ne0.false)
