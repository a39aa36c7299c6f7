-- `castles` of resolve.rt meets its contract: r ≡ formOf standard .castles (board_with side (now pieces.entry)).
use Rattle.san_text.specs.Standard.{standard_castles}
use Rattle.san.proofs.resolve.castles.Goals as goal

pub returns : goal.returns
unfolding standard_castles
returns c =
    let at-if1 = c.if-not-standard in
    let at-byte-at = c.byte_at in
    simp (at-if1.false, c.kind_of.ensures, at-byte-at.ensures)
