-- `read_four` of short.rt meets its contract: r ≡ short_four a b c d.
use Rattle.san_reader.specs.CodeShort.{letter_four, short_four}
use mathlib.Core.Path.{sym, ◌∙◌}
use borrow.Author.Tests.{eq-eqb, ne_eqb}
use native.Mathlib.Omega.{arith}
use Rattle.san_text.proofs.Places.{place_most}
use Rattle.san_reader.proofs.short.read_four.Goals as goal

pub returns-then-piece-eq0 : goal.returns-then-piece-eq0
unfolding short_four letter_four
returns-then-piece-eq0 c = simp (eq-eqb _ _ (sym c.piece_kind-piece.ensures ∙ c.if-piece-eq0.true), c.pawn_takes.ensures)

pub returns-then-b-eq120 : goal.returns-then-b-eq120
unfolding short_four letter_four
returns-then-b-eq120 c =
    let at-piece-kind = c.piece_kind-piece in
    let at-if1 = c.if-piece-eq0 in
    let at-square-of = c.square_of-square in
    simp (ne_eqb _ _ (λ w. at-if1.false (at-piece-kind.ensures ∙ w)), eq-eqb _ _ c.if-b-eq120.true, at-piece-kind.ensures, at-square-of.ensures)

pub overflow_add-file : goal.overflow_add-file
overflow_add-file c =
    let a = c.args in
    let at-place-from = c.place_from-file in
    omega (arith, at-place-from.ensures, place_most 96 a.b, c.place_from-rank.ensures, place_most 48 a.b)

pub returns-then-file-rank-eq0 : goal.returns-then-file-rank-eq0
unfolding short_four letter_four
returns-then-file-rank-eq0 c =
    let at-piece-kind = c.piece_kind-piece in
    let at-if1 = c.if-piece-eq0 in
    let at-if2 = c.if-b-eq120 in
    let at-place-from = c.place_from-file in
    let at-place-from2 = c.place_from-rank in
    let at-if3 = c.if-file-rank-eq0 in
    simp (
      ne_eqb _ _ (λ w. at-if1.false (at-piece-kind.ensures ∙ w)),
      ne_eqb _ _ at-if2.false,
      eq-eqb _ _ (rw (at-place-from.ensures, at-place-from2.ensures) at at-if3.true),
    )

pub returns : goal.returns
unfolding short_four letter_four
returns c =
    let at-piece-kind = c.piece_kind-piece in
    let at-if1 = c.if-piece-eq0 in
    let at-square-of = c.square_of-square in
    let at-if2 = c.if-b-eq120 in
    let at-place-from = c.place_from-file in
    let at-place-from2 = c.place_from-rank in
    simp (
      ne_eqb _ _ (λ w. at-if1.false (at-piece-kind.ensures ∙ w)),
      ne_eqb _ _ at-if2.false,
      ne_eqb _ _ (rw (at-place-from.ensures, at-place-from2.ensures) at c.if-file-rank-eq0.false),
      at-piece-kind.ensures,
      at-place-from.ensures,
      at-place-from2.ensures,
      at-square-of.ensures,
    )
