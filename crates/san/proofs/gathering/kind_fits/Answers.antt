-- `kind_fits` of gathering.rt meets its contract: r ≡ kind_fits (now pieces.entry) t x.
use Rattle.san.specs.CodeGathered.{kind_fits}
use Rattle.san.proofs.gathering.kind_fits.Goals as goal

pub returns : goal.returns
unfolding kind_fits
returns c = simp c.kind_of.ensures
