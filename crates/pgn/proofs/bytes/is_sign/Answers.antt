-- `is_sign` of bytes.rt meets its contract: r ≡ is_sign b.
use Rattle.std.proofs.Common.{rules}
use Rattle.pgn_text.specs.Bytes.{is_sign}
use Rattle.pgn.proofs.bytes.is_sign.Goals as goal

pub returns-in-43 : goal.returns-in-43
unfolding is_sign
returns-in-43 c = search rules

pub returns-in_default : goal.returns-in_default
unfolding is_sign
returns-in_default c = search rules
