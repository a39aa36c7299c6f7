-- `piece_letter` of lib.rt meets its contract: the letter, as a list, is piece_letter kind.
use Rattle.std.proofs.Common.{rules}
use Rattle.san_text.specs.Name.{piece_letter}
use Rattle.san_writer.proofs.piece_letter.Goals as goal

pub returns-then-kind-eq6 : goal.returns-then-kind-eq6
unfolding piece_letter
returns-then-kind-eq6 c = search rules

pub returns-else-kind-eq6 : goal.returns-else-kind-eq6
unfolding piece_letter
returns-else-kind-eq6 c = search rules
