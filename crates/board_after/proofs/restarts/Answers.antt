-- `restarts` of lib.rt meets its contract: r ≡ restarts (now squares.entry) source dest.
use mathlib.Core.Path.{◌≡◌, ◌∙◌, sym}
use borrow.Author.Tests.{eq-eqb, ne_eqb}
use Rattle.square.specs.Piece.{kind_of, pawn, man_on}
use Rattle.move_rules.specs.After.{restarts}
use Rattle.board_after.proofs.restarts.Goals as goal

pub returns-then-kind_of-eq-PAWN : goal.returns-then-kind_of-eq-PAWN
unfolding restarts
returns-then-kind_of-eq-PAWN c =
    let a = c.args in
    let at-kind-of = c.kind_of in
    let e : kind_of (man_on a.squares.now a.way.source) ≡ pawn = sym at-kind-of.ensures ∙ c.if-kind_of-eq-PAWN.true in
    simp (eq-eqb _ _ e)

pub returns : goal.returns
unfolding restarts
returns c =
    let a = c.args in
    let at-kind-of = c.kind_of in
    let at-if1 = c.if-kind_of-eq-PAWN in
    let n : kind_of (man_on a.squares.now a.way.source) ≡ pawn → ⊥ = λ e. at-if1.false (at-kind-of.ensures ∙ e) in
    sym (simp (ne_eqb _ _ n))
