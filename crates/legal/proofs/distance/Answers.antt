-- `distance` of lib.rt meets its contract: r ≡ distance s t.
use mathlib.Core.Path.{◌∙◌}
use Rattle.move_laws.specs.Apart.{distance}
use Rattle.legal.proofs.Lines.{larger_by}
use Rattle.legal.proofs.distance.Goals as goal

pub returns : goal.returns
unfolding distance
returns c = c.max.ensures ∙ larger_by _ _ ∙ simp (c.files_apart.ensures, c.ranks_apart.ensures)
