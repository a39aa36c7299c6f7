-- `number_size` of lib.rt meets its contract: (r ≡ length (number_text number)) × (r ≤ 2).
use native.Mathlib.Omega.{arith}
use Rattle.differences.proofs.Written.{size_one, size_two}
use Rattle.differences.proofs.number_size.Goals as goal

pub returns-then-number-lt128 : goal.returns-then-number-lt128
returns-then-number-lt128 c = (size_one c.args.number c.if-number-lt128.true, omega arith)

pub returns : goal.returns
returns c = (size_two c.args.number c.if-number-lt128.false c.requires, omega arith)
