-- `goes` of lib.rt meets its contract: r ≡ goes (now squares.entry) side rights marked s t promotion.
use mathlib.Core.Path.{ap, sym, ◌∙◌}
use Prim.Native.Nat.{ℕ}
use Rattle.move_laws.specs.Move.{promotes, kind_moves}
use Rattle.move_laws.specs.Legal.{goes}
use Rattle.legal.proofs.goes.Goals as goal

pub returns-then-not-of_side : goal.returns-then-not-of_side
unfolding goes
returns-then-not-of_side c = simp (sym c.of_side.ensures ∙ c.if-not-of_side.true)

pub returns-then-not-promotes : goal.returns-then-not-promotes
unfolding goes
returns-then-not-promotes c =
    let a = c.args in
    let at-of-side = c.of_side in
    let at-if1 = c.if-not-of_side in
    let at-kind-of = c.kind_of-kind in
    let at-promotes = c.promotes in
    simp (
      sym at-of-side.ensures ∙ at-if1.false,
      sym
          (at-promotes.ensures ∙ ap (λ (k : ℕ). promotes a.side.number k a.way.dest a.promotion) at-kind-of.ensures) ∙ c.if-not-promotes.true,
    )

pub returns : goal.returns
unfolding goes
returns c =
    let a = c.args in
    let at-of-side = c.of_side in
    let at-if1 = c.if-not-of_side in
    let at-kind-of = c.kind_of-kind in
    let at-promotes = c.promotes in
    let at-if2 = c.if-not-promotes in
    c.kind_moves.ensures
    ∙ ap (λ (k : ℕ). kind_moves a.squares.now a.side.number a.rights a.marked k a.way.source a.way.dest) at-kind-of.ensures
    ∙ simp (
      sym at-of-side.ensures ∙ at-if1.false,
      sym
          (at-promotes.ensures ∙ ap (λ (k : ℕ). promotes a.side.number k a.way.dest a.promotion) at-kind-of.ensures) ∙ at-if2.false,
    )
