-- `standard_end` of lib.rt meets its contract.
use Rattle.std.proofs.Common.{rules, append_assoc}
use Rattle.san_text.specs.Standard.{with_equals}
use Rattle.san_writer.proofs.standard_end.Goals as goal

pub returns-in-Some : goal.returns-in-Some
unfolding with_equals
returns-in-Some c = rw (← c.in-Some.ensures) (search (rules, append_assoc))

pub returns-in_default : goal.returns-in_default
unfolding with_equals
returns-in_default c = rw (← c.in_default.ensures) (search rules)
