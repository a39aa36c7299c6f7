-- `lowest` of sets.rt meets its contract: r ≡ lowest_bits word.
use mathlib.Core.Path.{refl}
use Rattle.report.specs.CodeSets.{lowest_of}
use Rattle.report.proofs.sets.lowest.Goals as goal

pub returns : goal.returns
unfolding lowest_of
returns c = refl
