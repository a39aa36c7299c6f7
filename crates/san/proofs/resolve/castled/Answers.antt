-- `castled` of resolve.rt meets its contract: r ≡ castled (formOf standard) (board_with side (now pieces.entry)) (now moves.entry) file.
use Rattle.san_text.specs.Form.{castled}
use Rattle.san_text.specs.Resolve.{castle}
use Rattle.san.proofs.resolve.castled.Goals as goal

pub returns-then-not-castles : goal.returns-then-not-castles
unfolding castled castle
returns-then-not-castles c = simp (← c.castles.ensures, c.if-not-castles.true, c.refused.ensures)

pub returns-then-is_listed : goal.returns-then-is_listed
unfolding castled castle
returns-then-is_listed c =
    let at-castles = c.castles in
    let at-if1 = c.if-not-castles in
    let at-castling-move = c.castling_move-m in
    let at-is-listed = c.is_listed in
    let at-if2 = c.if-is_listed in
    simp (
      ← at-castles.ensures,
      at-if1.false,
      c.accepted.ensures,
      ← at-castling-move.ensures,
      ← at-is-listed.ensures,
      at-if2.true,
    )

pub returns : goal.returns
unfolding castled castle
returns c =
    let at-castles = c.castles in
    let at-if1 = c.if-not-castles in
    let at-castling-move = c.castling_move-m in
    let at-is-listed = c.is_listed in
    let at-if2 = c.if-is_listed in
    simp (
      ← at-castles.ensures,
      at-if1.false,
      c.refused-2.ensures,
      ← at-castling-move.ensures,
      ← at-is-listed.ensures,
      at-if2.false,
    )
