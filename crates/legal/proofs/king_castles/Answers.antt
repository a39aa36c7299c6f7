-- `king_castles` of lib.rt meets its contract: r ≡ king_castles (now squares.entry) side rights s t.
use borrow.Author.Tests.{eq-eqb, ne_eqb}
use native.Mathlib.Omega.{arith}
use mathlib.Core.Path.{ap, sym, ◌∙◌}
use Prim.Native.Nat.{ℕ, ◌+◌, ◌*◌}
use lib.Dec.{eqb}
use lib.ListN.{get_or}
use Rattle.move_laws.specs.Move.{king_castles}
use Rattle.legal.proofs.Castle.{corner_under, home_corner}
use Rattle.move_laws.specs.Apart.{clear}
use Rattle.legal.proofs.king_castles.Goals as goal

pub returns-then-way-side : goal.returns-then-way-side
unfolding king_castles
returns-then-way-side c = simp (ne_eqb _ _ c.if-way-side.true)

pub returns-then-not-two_apart : goal.returns-then-not-two_apart
unfolding king_castles
returns-then-not-two_apart c = simp (eq-eqb _ _ c.if-way-side.false, sym c.two_apart.ensures ∙ c.if-not-two_apart.true)

pub returns-then-not-right_held : goal.returns-then-not-right_held
unfolding king_castles
returns-then-not-right_held c =
    let at-if1 = c.if-way-side in
    let at-two-apart = c.two_apart in
    let at-if2 = c.if-not-two_apart in
    let at-right-held = c.right_held in
    simp (
      eq-eqb _ _ at-if1.false,
      sym at-two-apart.ensures ∙ at-if2.false,
      sym at-right-held.ensures ∙ c.if-not-right_held.true,
    )

pub bounds-squares-from : goal.bounds-squares-from
bounds-squares-from c =
    let a = c.args in
    let at_corner = c.corner-from in
    omega (arith, at_corner.ensures, corner_under a.way.source a.way.dest a.way.on_board.0)

pub returns-then-squares-from : goal.returns-then-squares-from
unfolding king_castles
returns-then-squares-from c =
    let a = c.args in
    let at-if1 = c.if-way-side in
    let at-two-apart = c.two_apart in
    let at-if2 = c.if-not-two_apart in
    let at-right-held = c.right_held in
    let at-if3 = c.if-not-right_held in
    let at_corner = c.corner-from in
    simp (
      eq-eqb _ _ at-if1.false,
      sym at-two-apart.ensures ∙ at-if2.false,
      sym at-right-held.ensures ∙ at-if3.false,
      sym (ap (λ (x : ℕ). eqb (get_or a.squares.now x 0) (4 + 6 * a.side.number)) at_corner.ensures) ∙ ne_eqb _ _
          (rw c.man.ensures at c.if-squares-from.true),
    )

pub clear-requires : goal.clear-requires
clear-requires c =
    let a = c.args in
    let at-if1 = c.if-way-side in
    let at_corner = c.corner-from in
    λ e. home_corner a.side.number a.way.source a.way.dest a.side.known at-if1.false (e ∙ at_corner.ensures)

pub returns-then-not-clear : goal.returns-then-not-clear
unfolding king_castles
returns-then-not-clear c =
    let a = c.args in
    let at-if1 = c.if-way-side in
    let at-two-apart = c.two_apart in
    let at-if2 = c.if-not-two_apart in
    let at-right-held = c.right_held in
    let at-if3 = c.if-not-right_held in
    let at_corner = c.corner-from in
    let at-if4 = c.if-squares-from in
    let at_clear = c.clear in
    simp (
      eq-eqb _ _ at-if1.false,
      sym at-two-apart.ensures ∙ at-if2.false,
      sym at-right-held.ensures ∙ at-if3.false,
      sym (ap (λ (x : ℕ). eqb (get_or a.squares.now x 0) (4 + 6 * a.side.number)) at_corner.ensures) ∙ eq-eqb _ _
          (rw c.man.ensures at at-if4.false),
      sym (at_clear.ensures ∙ ap (λ (x : ℕ). clear a.squares.now a.way.source x) at_corner.ensures) ∙ c.if-not-clear.true,
    )

pub returns : goal.returns
unfolding king_castles
returns c =
    let a = c.args in
    let at-if1 = c.if-way-side in
    let at-two-apart = c.two_apart in
    let at-if2 = c.if-not-two_apart in
    let at-right-held = c.right_held in
    let at-if3 = c.if-not-right_held in
    let at_corner = c.corner-from in
    let at-if4 = c.if-squares-from in
    let at_clear = c.clear in
    let at-if5 = c.if-not-clear in
    simp (
      eq-eqb _ _ at-if1.false,
      sym at-two-apart.ensures ∙ at-if2.false,
      sym at-right-held.ensures ∙ at-if3.false,
      sym (ap (λ (x : ℕ). eqb (get_or a.squares.now x 0) (4 + 6 * a.side.number)) at_corner.ensures) ∙ eq-eqb _ _
          (rw c.man.ensures at at-if4.false),
      sym (at_clear.ensures ∙ ap (λ (x : ℕ). clear a.squares.now a.way.source x) at_corner.ensures) ∙ at-if5.false,
      c.way_attacked.ensures,
    )
