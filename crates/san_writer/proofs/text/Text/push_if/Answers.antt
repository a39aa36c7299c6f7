-- `push_if` of text.rt meets its contract.
use Rattle.std.proofs.Common.{rules}
use Rattle.san_text.specs.Name.{optional}
use Rattle.san_writer.proofs.text.Text.push_if.Goals as goal

pub returns-then-there-clause-text : goal.returns-then-there-clause-text
unfolding optional
returns-then-there-clause-text c = search rules

pub returns-else-there-clause-text : goal.returns-else-there-clause-text
unfolding optional
returns-else-there-clause-text c = search rules
