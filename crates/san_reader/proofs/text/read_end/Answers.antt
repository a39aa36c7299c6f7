-- `read_end` of text.rt meets its contract: r ≡ read_end kind file rank takes square promotion (now s.entry).
use Rattle.san_text.specs.Text.{read_end}
use Rattle.san_reader.proofs.text.read_end.Goals as goal

pub returns : goal.returns
unfolding read_end
returns c = cc
