-- `bucket` of men.rt meets its contract: r ≡ plane_bucket seed planes.
use Rattle.report.specs.CodeSets.{plane_bucket}
use Rattle.report.proofs.men.bucket.Goals as goal

pub returns : goal.returns
unfolding plane_bucket
returns c = rw (c.mix-h.ensures, c.mix-3.ensures, c.mix-2.ensures, c.mix.ensures)
