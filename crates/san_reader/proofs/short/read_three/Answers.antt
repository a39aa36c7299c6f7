-- `read_three` of short.rt meets its contract: r ≡ short_three a b c.
use Rattle.san_reader.specs.CodeShort.{short_three}
use mathlib.Core.Path.{sym, ◌∙◌}
use borrow.Author.Tests.{eq-eqb, ne_eqb}
use Rattle.san_reader.proofs.short.read_three.Goals as goal

pub returns-then-piece-eq0 : goal.returns-then-piece-eq0
unfolding short_three
returns-then-piece-eq0 c = simp (eq-eqb _ _ (sym c.piece_kind-piece.ensures ∙ c.if-piece-eq0.true))

pub returns : goal.returns
unfolding short_three
returns c =
    let at-piece-kind = c.piece_kind-piece in
    let at-if1 = c.if-piece-eq0 in
    simp (ne_eqb _ _ (λ w. at-if1.false (at-piece-kind.ensures ∙ w)), at-piece-kind.ensures, c.square_of.ensures)
