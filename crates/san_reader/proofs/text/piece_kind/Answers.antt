-- `piece_kind` of text.rt meets its contract: r ≡ piece_kind b.
use Rattle.san_reader.proofs.Letters.{letter_kind_lem, no_letter}
use Rattle.san_reader.proofs.text.piece_kind.Goals as goal

pub returns-then-b-eq2 : goal.returns-then-b-eq2
returns-then-b-eq2 c = letter_kind_lem c.args.b c.if-b-eq2.true

pub returns-else-b-eq2 : goal.returns-else-b-eq2
returns-else-b-eq2 c = no_letter c.args.b c.if-b-eq2.false
