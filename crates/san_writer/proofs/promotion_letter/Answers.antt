-- `promotion_letter` of lib.rt meets its contract: the letter, as a list, is promotion_letter kind.
use mathlib.Core.Path.{sym, ap}
use Rattle.std.proofs.Common.{rules}
use Rattle.san_text.specs.Name.{promotion_letter}
use Rattle.san_writer.proofs.promotion_letter.Goals as goal

pub returns-in-2 : goal.returns-in-2
unfolding promotion_letter
returns-in-2 c = sym (ap promotion_letter c.in-2.is)

pub returns-in-3 : goal.returns-in-3
unfolding promotion_letter
returns-in-3 c = sym (ap promotion_letter c.in-3.is)

pub returns-in-4 : goal.returns-in-4
unfolding promotion_letter
returns-in-4 c = sym (ap promotion_letter c.in-4.is)

pub returns-in-5 : goal.returns-in-5
unfolding promotion_letter
returns-in-5 c = sym (ap promotion_letter c.in-5.is)

pub returns-in_default : goal.returns-in_default
unfolding promotion_letter
returns-in_default c = search rules
