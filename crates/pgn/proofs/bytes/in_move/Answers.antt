-- `in_move` of bytes.rt meets its contract: r ≡ in_move b.
use Rattle.pgn_text.specs.Bytes.{in_move}
use Rattle.pgn.proofs.bytes.in_move.Goals as goal

pub returns : goal.returns
unfolding in_move
returns c = cc
