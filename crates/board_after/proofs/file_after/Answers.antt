-- `file_after` of lib.rt meets its contract: r ≡ file_after (now squares.entry) man source dest.
use mathlib.Core.Path.{sym, ◌∙◌}
use Rattle.move_rules.specs.After.{enemy_pawn, file_after}
use Rattle.board_after.proofs.file_after.Goals as goal

pub returns-then-not-steps_twice : goal.returns-then-not-steps_twice
unfolding file_after enemy_pawn
returns-then-not-steps_twice c = simp (sym c.steps_twice.ensures ∙ c.if-not-steps_twice.true)

pub returns-then-not-stood_beside : goal.returns-then-not-stood_beside
unfolding file_after enemy_pawn
returns-then-not-stood_beside c =
    let at-steps-twice = c.steps_twice in
    let at-if1 = c.if-not-steps_twice in
    let at-stood-beside = c.stood_beside in
    simp (
      sym at-steps-twice.ensures ∙ at-if1.false,
      ← c.of_colour.ensures,
      sym at-stood-beside.ensures ∙ c.if-not-stood_beside.true,
    )

pub returns : goal.returns
unfolding file_after enemy_pawn
returns c =
    let at-steps-twice = c.steps_twice in
    let at-if1 = c.if-not-steps_twice in
    let at-stood-beside = c.stood_beside in
    simp (
      sym at-steps-twice.ensures ∙ at-if1.false,
      ← c.of_colour.ensures,
      sym at-stood-beside.ensures ∙ c.if-not-stood_beside.false,
    )
