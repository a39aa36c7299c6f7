-- `mix` of men.rt meets its contract: r ≡ mixed h set.
use mathlib.Core.Path.{refl}
use Rattle.report.specs.CodeSets.{mixed}
use Rattle.report.proofs.men.mix.Goals as goal

pub returns : goal.returns
unfolding mixed
returns c = refl
