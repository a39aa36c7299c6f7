-- `files_apart` of lib.rt meets its contract: r ≡ files_apart s t.
use mathlib.Core.Path.{◌∙◌}
use Rattle.move_laws.specs.Apart.{files_apart}
use Rattle.legal.proofs.Lines.{apart_by}
use Rattle.legal.proofs.files_apart.Goals as goal

pub returns : goal.returns
unfolding files_apart
returns c = c.abs_diff.ensures ∙ apart_by _ _
