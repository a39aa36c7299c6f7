-- `is_white` of bytes.rt meets its contract: r ≡ is_white b.
use Rattle.pgn_text.specs.Bytes.{is_white}
use Rattle.pgn.proofs.bytes.is_white.Goals as goal

pub returns : goal.returns
unfolding is_white
returns c = cc
