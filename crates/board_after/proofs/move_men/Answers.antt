-- `move_men` of lib.rt meets its contract: now squares.exit ≡ squares_after (now squares.entry) source dest promotion.
use Rattle.move_rules.specs.After.{squares_after}
use Rattle.board_after.proofs.move_men.Goals as goal

pub returns : goal.returns
unfolding squares_after
returns c =
    let at-move-rook = c.move_rook in
    let at-remove-pawn = c.remove_pawn in
    rw (at-remove-pawn.ensures, at-move-rook.ensures, c.set_down.ensures)
