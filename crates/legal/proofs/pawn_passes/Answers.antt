-- `pawn_passes` of lib.rt meets its contract: r ≡ pawn_passes (now squares.entry) side marked s t.
use borrow.Author.Tests.{eq-eqb, ne_eqb}
use mathlib.Core.Path.{sym, ◌∙◌}
use Prim.Native.Nat.{◌+◌, ◌-◌, ◌*◌, ◌/◌, ◌%◌}
use lib.Dec.{eqb}
use lib.ListN.{get_or}
use Rattle.move_laws.specs.Move.{passing_rank, pawn_passes}
use Rattle.legal.proofs.Held.{four_held}
use Rattle.move_laws.specs.Attack.{pawn_attacks}
use Rattle.legal.proofs.pawn_passes.Goals as goal

pub returns-then-not-pawn_attacks : goal.returns-then-not-pawn_attacks
unfolding pawn_passes
returns-then-not-pawn_attacks c = simp (sym c.pawn_attacks.ensures ∙ c.if-not-pawn_attacks.true)

pub returns-then-marked-way : goal.returns-then-marked-way
unfolding pawn_passes
returns-then-marked-way c =
    let at-pawn-attacks = c.pawn_attacks in
    let at-if1 = c.if-not-pawn_attacks in
    simp (sym at-pawn-attacks.ensures ∙ at-if1.false, ne_eqb _ _ c.if-marked-way.true)

pub returns-then-way-pick : goal.returns-then-way-pick
unfolding pawn_passes
returns-then-way-pick c =
    let at-pawn-attacks = c.pawn_attacks in
    let at-if1 = c.if-not-pawn_attacks in
    let at-if2 = c.if-marked-way in
    let at_pick = c.pick in
    simp (
      sym at-pawn-attacks.ensures ∙ at-if1.false,
      eq-eqb _ _ at-if2.false,
      ne_eqb _ _
          (λ e. c.if-way-pick.true (e ∙ sym at_pick.ensures)),
    )

pub returns-then-squares-way-ne0 : goal.returns-then-squares-way-ne0
unfolding pawn_passes
returns-then-squares-way-ne0 c =
    let at-pawn-attacks = c.pawn_attacks in
    let at-if1 = c.if-not-pawn_attacks in
    let at-if2 = c.if-marked-way in
    let at_pick = c.pick in
    let at-if3 = c.if-way-pick in
    simp (
      sym at-pawn-attacks.ensures ∙ at-if1.false,
      eq-eqb _ _ at-if2.false,
      eq-eqb _ _
          (at-if3.false ∙ at_pick.ensures),
      ne_eqb _ _ c.if-squares-way-ne0.true,
    )

pub returns : goal.returns
unfolding pawn_passes
returns c =
    let a = c.args in
    let at-pawn-attacks = c.pawn_attacks in
    let at-if1 = c.if-not-pawn_attacks in
    let at-if2 = c.if-marked-way in
    let at_pick = c.pick in
    let at-if3 = c.if-way-pick in
    let at-if4 = c.if-squares-way-ne0 in
    rw (c.man.ensures, c.other.ensures)
    (four_held (pawn_attacks a.side.number a.way.source a.way.dest) (eqb a.marked (a.way.dest % 8 + 1)) (eqb (a.way.source / 8) (passing_rank a.side.number))
    (eqb (get_or a.squares.now a.way.dest 0) 0) (eqb (get_or a.squares.now (a.way.source / 8 * 8 + a.way.dest % 8) 0) (1 + 6 * (1 - a.side.number)))
    (sym at-pawn-attacks.ensures ∙ at-if1.false) (eq-eqb _ _ at-if2.false)
    (eq-eqb _ _ (at-if3.false ∙ at_pick.ensures)) (eq-eqb _ _ at-if4.false))
