-- `is_digit` of bytes.rt meets its contract: r ≡ is_digit b.
use Rattle.pgn_text.specs.Bytes.{is_digit}
use Rattle.pgn.proofs.bytes.is_digit.Goals as goal

pub returns : goal.returns
unfolding is_digit
returns c = cc
