-- `read_promotion` of text.rt meets its contract: r ≡ read_promotion kind file rank takes square (now s.entry).
use Rattle.san_text.specs.Text.{read_promotion}
use Rattle.san_reader.proofs.text.read_promotion.Goals as goal

pub returns : goal.returns
unfolding read_promotion
returns c = cc
