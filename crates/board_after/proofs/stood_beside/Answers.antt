-- `stood_beside` of lib.rt meets its contract: r ≡ stood_beside (now squares.entry) square man.
use mathlib.Core.Path.{◌≡◌, ◌∙◌}
use borrow.Author.Tests.{eq-eqb, ne_eqb}
use Rattle.move_rules.specs.After.{stood_before, stood_behind}
use Rattle.board_after.proofs.stood_beside.Goals as goal
use Rattle.board_after.proofs.stood_beside.Goals.{then-square-ne0, else-square-ne0, then-square-ne7, else-square-ne7}

pub returns : goal.returns
unfolding stood_before stood_behind
returns c =
    let a = c.args in
    let before : c.if-square-ne0.before ≡ stood_before a.squares.now a.square a.man =
    elim c.if-square-ne0.branch [
      | then-square-ne0 w ↦ w.before-is ∙ simp (ne_eqb _ _ w.if-square-ne0.true)
      | else-square-ne0 w ↦ w.before-is ∙ simp (eq-eqb _ _ w.if-square-ne0.false)
    ] in
    let behind : c.if-square-ne7.behind ≡ stood_behind a.squares.now a.square a.man =
    elim c.if-square-ne7.branch [
      | then-square-ne7 w ↦ w.behind-is ∙ simp (ne_eqb _ _ w.if-square-ne7.true)
      | else-square-ne7 w ↦ w.behind-is ∙ simp (eq-eqb _ _ w.if-square-ne7.false)
    ] in
    c.either.ensures ∙ rw (before, behind)
