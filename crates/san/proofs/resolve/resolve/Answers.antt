-- `resolve` of resolve.rt meets its contract: r ≡ resolved (formOf standard) (board_with side (now pieces.entry)) (now moves.entry) (Some said).
use Rattle.san_text.specs.Form.{castled, resolved}
use Rattle.san.proofs.resolve.resolve.Goals as goal

pub returns-in-KingSide : goal.returns-in-KingSide
unfolding resolved castled
returns-in-KingSide c = simp (c.in-KingSide.is, c.castled.ensures)

pub returns-in-QueenSide : goal.returns-in-QueenSide
unfolding resolved castled
returns-in-QueenSide c = simp (c.in-QueenSide.is, c.castled-in-QueenSide.ensures)

pub returns-in-Move : goal.returns-in-Move
unfolding resolved
returns-in-Move c = simp (c.in-Move.is, c.sole_move.ensures)
