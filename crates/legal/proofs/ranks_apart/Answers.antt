-- `ranks_apart` of lib.rt meets its contract: r ≡ ranks_apart s t.
use mathlib.Core.Path.{◌∙◌}
use Rattle.move_laws.specs.Apart.{ranks_apart}
use Rattle.legal.proofs.Lines.{apart_by}
use Rattle.legal.proofs.ranks_apart.Goals as goal

pub returns : goal.returns
unfolding ranks_apart
returns c = c.abs_diff.ensures ∙ apart_by _ _
