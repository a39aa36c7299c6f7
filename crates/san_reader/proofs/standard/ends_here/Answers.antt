-- `ends_here` of standard.rt meets its contract: r ≡ ends_here (now s.entry).
use Rattle.san_reader.proofs.Fronts.{no_bytes}
use mathlib.Core.Path.{◌∙◌}
use Rattle.san_text.specs.Standard.{ends_here}
use Rattle.san_reader.proofs.standard.ends_here.Goals as goal

pub returns : goal.returns
unfolding ends_here
returns c = no_bytes c.skip-left.result.now ∙ simp (c.skip-left.ensures, c.is_check.ensures, c.byte_at.ensures)
