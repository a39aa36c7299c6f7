-- `read_mark` of standard.rt meets its contract: r ≡ standard_end kind file rank takes square promotion (now s.entry).
use mathlib.Core.Path.{◌∙◌, sym}
use Rattle.san_text.specs.Standard.{standard_end}
use Rattle.san_reader.proofs.standard.read_mark.Goals as goal

pub returns-then-not-ends_here : goal.returns-then-not-ends_here
unfolding standard_end
returns-then-not-ends_here c = simp (sym c.ends_here.ensures ∙ c.if-not-ends_here.true)

pub returns : goal.returns
unfolding standard_end
returns c = simp (sym c.ends_here.ensures ∙ c.if-not-ends_here.false, c.piece_or.ensures)
