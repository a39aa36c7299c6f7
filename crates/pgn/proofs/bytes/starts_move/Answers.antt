-- `starts_move` of bytes.rt meets its contract: r ≡ starts_move b.
use Rattle.pgn_text.specs.Bytes.{starts_move}
use Rattle.pgn.proofs.bytes.starts_move.Goals as goal

pub returns : goal.returns
unfolding starts_move
returns c = cc
