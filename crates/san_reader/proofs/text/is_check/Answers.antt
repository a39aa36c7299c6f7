-- `is_check` of text.rt meets its contract: r ≡ is_check b.
use Rattle.std.proofs.Common.{rules}
use Rattle.san_text.specs.Text.{is_check}
use Rattle.san_reader.proofs.text.is_check.Goals as goal

pub returns-in-43 : goal.returns-in-43
unfolding is_check
returns-in-43 c = search rules

pub returns-in_default : goal.returns-in_default
unfolding is_check
returns-in_default c = search rules
