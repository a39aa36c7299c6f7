-- `parted` of sets.rt meets its contract: r ≡ quarters_of first second.
use native.Mathlib.Omega.{arith}
use lib.Bits.{or_lt}
use Rattle.report.proofs.sets.parted.Goals as goal

pub overflow_sub-result : goal.overflow_sub-result
overflow_sub-result c = omega (arith, or_lt 64 c.args.first c.args.second c.ranges.first.fits c.ranges.second.fits)
