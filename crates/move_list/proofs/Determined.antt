-- Each public function's contract, as the toolchain reads it off the source, permits one answer, and one content of each slice that is lent to be written.
-- Assumes nothing.
use mathlib.Core.Path.{sym, ◌∙◌}
use Rattle.answer.specs.Determined.{OneAnswer}
use Rattle.move_list.proofs.over.Reads as over
use Rattle.move_list.proofs.over.Kinds as over·k
use Rattle.move_list.proofs.in_range.Reads as in_range_lem
use Rattle.move_list.proofs.in_range.Kinds as in-range·k
use Rattle.move_list.proofs.is_listed.Reads as is-listed
use Rattle.move_list.proofs.is_listed.Kinds as is-listed·k

pub over_answer : OneAnswer over·k.ps over·k.r over.Learnt
over_answer κs a x y e f p q = p ∙ sym q

pub in_range_answer : OneAnswer in-range·k.ps in-range·k.r in_range_lem.Learnt
in_range_answer κs a x y e f p q = p ∙ sym q

pub is_listed_answer : OneAnswer is-listed·k.ps is-listed·k.r is-listed.Learnt
is_listed_answer κs a x y e f p q = p ∙ sym q
