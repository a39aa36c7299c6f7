use native.Mathlib.Omega.{arith}
use Rattle.report.proofs.Sums.{all_counted}
use Rattle.report.proofs.men.add_men.Goals as goal

pub returns : goal.returns
returns c = all_counted c.loop-kind.invariant (omega arith)
