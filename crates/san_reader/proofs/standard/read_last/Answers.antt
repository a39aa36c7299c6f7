-- `read_last` of standard.rt meets its contract: r ≡ standard_dest kind file rank takes (now s.entry).
use borrow.Author.Tests.{eq-eqb, ne_eqb}
use Rattle.san_text.specs.Standard.{standard_dest}
use Rattle.san_reader.proofs.standard.read_last.Goals as goal

pub returns-then-square-ne0 : goal.returns-then-square-ne0
unfolding standard_dest
returns-then-square-ne0 c =
    let at-square-ahead = c.square_ahead-square in
    let at-if1 = c.if-square-ne0 in
    let at_rest = c.rest in
    simp (← at-square-ahead.ensures, ne_eqb _ _ at-if1.true, c.read_equals.ensures, at_rest.ensures)

pub returns-then-source : goal.returns-then-source
unfolding standard_dest
returns-then-source c = simp (← c.square_ahead-square.ensures, eq-eqb _ _ c.if-square-ne0.false, c.if-source.true)

pub returns-then-own-ne0 : goal.returns-then-own-ne0
unfolding standard_dest
returns-then-own-ne0 c =
    let at-square-ahead = c.square_ahead-square in
    let at-if1 = c.if-square-ne0 in
    let at-if2 = c.if-source in
    let at-square-at = c.square_at-own in
    let at-if3 = c.if-own-ne0 in
    simp (← at-square-ahead.ensures, eq-eqb _ _ at-if1.false, at-if2.false, ← at-square-at.ensures, ne_eqb _ _ at-if3.true, c.read_equals-then-own-ne0.ensures)

pub returns : goal.returns
unfolding standard_dest
returns c =
    let at-square-ahead = c.square_ahead-square in
    let at-if1 = c.if-square-ne0 in
    let at-if2 = c.if-source in
    let at-square-at = c.square_at-own in
    simp (← at-square-ahead.ensures, eq-eqb _ _ at-if1.false, at-if2.false, ← at-square-at.ensures, eq-eqb _ _ c.if-own-ne0.false)
