-- `promotes` of lib.rt meets its contract: r ≡ promotes side kind t promotion.
use mathlib.Core.Path.{ap, sym, ◌∙◌}
use mathlib.Core.Bool.{◌&&◌}
use Prim.Native.Nat.{ℕ, ◌/◌}
use lib.Dec.{eqb}
use Rattle.move_laws.specs.Move.{promotes}
use Rattle.legal.proofs.promotes.Goals as goal

pub returns-then-both : goal.returns-then-both
unfolding promotes
returns-then-both c =
    let a = c.args in
    let at_pick = c.pick-last in
    let at_both = c.both in
    let at-if1 = c.if-both in
    c.both-then-both.ensures ∙ simp (sym (at_both.ensures ∙ ap (λ (x : ℕ). eqb a.kind 1 && eqb (a.t / 8) x) at_pick.ensures) ∙ at-if1.true)

pub returns : goal.returns
unfolding promotes
returns c =
    let a = c.args in
    let at_pick = c.pick-last in
    let at_both = c.both in
    simp (sym (at_both.ensures ∙ ap (λ (x : ℕ). eqb a.kind 1 && eqb (a.t / 8) x) at_pick.ensures) ∙ c.if-both.false)
