-- `pawn_steps_twice` of lib.rt meets its contract: r ≡ pawn_steps_twice (now squares.entry) side s t.
use borrow.Author.Tests.{eq-eqb, ne_eqb}
use mathlib.Core.Path.{sym, ◌∙◌}
use Prim.Native.Nat.{◌+◌, ◌/◌, ◌%◌}
use lib.Dec.{eqb}
use lib.ListN.{get_or}
use Rattle.move_laws.specs.Move.{second_rank, pawn_steps_twice}
use Rattle.legal.proofs.Held.{four_held}
use Rattle.move_laws.specs.Attack.{ahead}
use Rattle.legal.proofs.pawn_steps_twice.Goals as goal

pub returns-then-not-ahead : goal.returns-then-not-ahead
unfolding pawn_steps_twice
returns-then-not-ahead c = simp (sym c.ahead.ensures ∙ c.if-not-ahead.true)

pub returns-then-way : goal.returns-then-way
unfolding pawn_steps_twice
returns-then-way c = simp (sym c.ahead.ensures ∙ c.if-not-ahead.false, ne_eqb _ _ c.if-way.true)

pub returns-then-way-pick : goal.returns-then-way-pick
unfolding pawn_steps_twice
returns-then-way-pick c =
    let at_ahead = c.ahead in
    let at-if1 = c.if-not-ahead in
    let at-if2 = c.if-way in
    let at_pick = c.pick in
    simp (
      sym at_ahead.ensures ∙ at-if1.false,
      eq-eqb _ _ at-if2.false,
      ne_eqb _ _
          (λ e. c.if-way-pick.true (e ∙ sym at_pick.ensures)),
    )

pub returns-then-squares-way-ne0 : goal.returns-then-squares-way-ne0
unfolding pawn_steps_twice
returns-then-squares-way-ne0 c =
    let at_ahead = c.ahead in
    let at-if1 = c.if-not-ahead in
    let at-if2 = c.if-way in
    let at_pick = c.pick in
    let at-if3 = c.if-way-pick in
    simp (
      sym at_ahead.ensures ∙ at-if1.false,
      eq-eqb _ _ at-if2.false,
      eq-eqb _ _
          (at-if3.false ∙ at_pick.ensures),
      ne_eqb _ _ c.if-squares-way-ne0.true,
    )

pub returns : goal.returns
unfolding pawn_steps_twice
returns c =
    let a = c.args in
    let at_ahead = c.ahead in
    let at-if1 = c.if-not-ahead in
    let at-if2 = c.if-way in
    let at_pick = c.pick in
    let at-if3 = c.if-way-pick in
    let at-if4 = c.if-squares-way-ne0 in
    four_held (ahead a.side.number a.way.source a.way.dest 2) (eqb (a.way.source % 8) (a.way.dest % 8)) (eqb (a.way.source / 8) (second_rank a.side.number))
    (eqb (get_or a.squares.now a.way.dest 0) 0)
    (eqb (get_or a.squares.now ((a.way.source + a.way.dest) / 2) 0) 0) (sym at_ahead.ensures ∙ at-if1.false) (eq-eqb _ _ at-if2.false)
    (eq-eqb _ _ (at-if3.false ∙ at_pick.ensures)) (eq-eqb _ _ at-if4.false)
