-- `is_letter` of bytes.rt meets its contract: r ≡ is_letter b.
use Rattle.pgn_text.specs.Bytes.{is_letter}
use Rattle.pgn.proofs.bytes.is_letter.Goals as goal

pub returns : goal.returns
unfolding is_letter
returns c = cc
