use native.Mathlib.Omega.{arith}
use Rattle.std.proofs.Common.{rules, tests}
use Rattle.roll_text.specs.Roll.{is_code}
use Rattle.roll_reader.proofs.is_code.Goals as goal

pub returns-in_default : goal.returns-in_default
unfolding is_code
returns-in_default c = first_of (search (tests, rules), grind (arith, tests))

pub returns-in_default-2 : goal.returns-in_default-2
unfolding is_code
returns-in_default-2 c = first_of (search (tests, rules), grind (arith, tests))

pub returns-in_default-3 : goal.returns-in_default-3
unfolding is_code
returns-in_default-3 c = first_of (search (tests, rules), grind (arith, tests))

pub returns-in-4 : goal.returns-in-4
unfolding is_code
returns-in-4 c = first_of (search (tests, rules), grind (arith, tests))

pub returns-in-4-2 : goal.returns-in-4-2
unfolding is_code
returns-in-4-2 c = first_of (search (tests, rules), grind (arith, tests))

pub returns-in-4-3 : goal.returns-in-4-3
unfolding is_code
returns-in-4-3 c = first_of (search (tests, rules), grind (arith, tests))
