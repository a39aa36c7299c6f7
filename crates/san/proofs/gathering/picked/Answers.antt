-- `picked` of gathering.rt meets its contract: r ≡ picked mask want m.
use Rattle.san.specs.CodeGathered.{picked}
use mathlib.Core.Path.{refl}
use Rattle.san.proofs.gathering.picked.Goals as goal

pub returns : goal.returns
unfolding picked
returns c = refl
