-- Each public function's contract, as the toolchain reads it off the source, permits one answer, and one content of each slice that is lent to be written.
-- Assumes nothing.
use mathlib.Core.Path.{sym, ◌∙◌}
use Rattle.answer.specs.Determined.{OneAnswer}
use Rattle.good_log.proofs.other_check.Reads as other-check
use Rattle.good_log.proofs.other_check.Kinds as other-check·k
use Rattle.good_log.proofs.check.Reads as check
use Rattle.good_log.proofs.check.Kinds as check·k

pub other_check_answer : OneAnswer other-check·k.ps other-check·k.r other-check.Learnt
other_check_answer κs a x y e f p q = p ∙ sym q

pub check_answer_lem : OneAnswer check·k.ps check·k.r check.Learnt
check_answer_lem κs a x y e f p q = p ∙ sym q
