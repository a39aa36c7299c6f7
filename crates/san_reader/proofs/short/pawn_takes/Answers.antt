-- `pawn_takes` of short.rt meets its contract: r ≡ pawn_takes a b c d.
use Rattle.san_reader.specs.CodeShort.{pawn_takes}
use mathlib.Core.Path.{sym, ◌∙◌}
use borrow.Author.Tests.{eq-eqb, ne_eqb}
use Rattle.san_reader.proofs.short.pawn_takes.Goals as goal

pub returns-then-file-eq0 : goal.returns-then-file-eq0
unfolding pawn_takes
returns-then-file-eq0 c = simp (eq-eqb _ _ (sym c.place_from-file.ensures ∙ c.if-file-eq0.true))

pub returns-then-b-ne120 : goal.returns-then-b-ne120
unfolding pawn_takes
returns-then-b-ne120 c =
    let at-place-from = c.place_from-file in
    let at-if1 = c.if-file-eq0 in
    let at-if2 = c.if-b-ne120 in
    simp (ne_eqb _ _ (λ w. at-if1.false (at-place-from.ensures ∙ w)), ne_eqb _ _ at-if2.true)

pub returns : goal.returns
unfolding pawn_takes
returns c =
    let at-place-from = c.place_from-file in
    let at-if1 = c.if-file-eq0 in
    let at-if2 = c.if-b-ne120 in
    simp (ne_eqb _ _ (λ w. at-if1.false (at-place-from.ensures ∙ w)), eq-eqb _ _ at-if2.false, at-place-from.ensures, c.square_of.ensures)
