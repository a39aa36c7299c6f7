-- `move_rook` of lib.rt meets its contract: now squares.exit ≡ rook_moved (now squares.entry) man source dest.
use mathlib.Core.Path.{sym, ◌∙◌}
use native.Mathlib.Omega.{arith}
use Rattle.move_rules.specs.After.{rook_moved}
use Rattle.move_rules.proofs.Squares.{corner_below}
use Rattle.board_after.proofs.move_rook.Goals as goal

pub returns-then-not-castles : goal.returns-then-not-castles
unfolding rook_moved
returns-then-not-castles c = simp (sym c.castles.ensures ∙ c.if-not-castles.true)

pub bounds-squares-from : goal.bounds-squares-from
bounds-squares-from c =
    let way = c.args.way in
    omega (arith, c.corner-from.ensures, corner_below way.source way.dest way.on_board.0)

pub bounds-squares-from-2 : goal.bounds-squares-from-2
bounds-squares-from-2 c =
    let way = c.args.way in
    omega (arith, c.corner-from.ensures, corner_below way.source way.dest way.on_board.0)

pub returns : goal.returns
unfolding rook_moved
returns c =
    let at-castles = c.castles in
    let at-if1 = c.if-not-castles in
    simp (sym at-castles.ensures ∙ at-if1.false, c.corner-from.ensures)
