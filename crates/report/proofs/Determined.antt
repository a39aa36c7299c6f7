-- The public function's contract, as the toolchain reads it off the source, permits one answer, and one content of each slice that is lent to be written.
-- Assumes nothing.
use mathlib.Core.Path.{sym, ◌∙◌}
use Rattle.answer.specs.Determined.{OneAnswer, OnePart}
use Rattle.report.proofs.report.Reads as report
use Rattle.report.proofs.report.Kinds as report·k

pub report_answer_lem : OneAnswer report·k.ps report·k.r report.Learnt
report_answer_lem κs a x y e f p q = p.0 ∙ sym q.0

pub report_records_lem : OnePart report·k.ps report·k.r (λ κs x e. e.1.0.now) report.Learnt
report_records_lem κs a x y e f p q = p.1.0 ∙ sym q.1.0

pub report_told_lem : OnePart report·k.ps report·k.r (λ κs x e. e.1.1.0.now) report.Learnt
report_told_lem κs a x y e f p q = p.1.1 ∙ sym q.1.1
