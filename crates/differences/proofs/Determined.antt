-- Each public function's contract, as the toolchain reads it off the source, permits one answer, and one content of each slice that is lent to be written.
-- Assumes nothing.
use mathlib.Core.Path.{sym, ◌∙◌}
use Rattle.answer.specs.Determined.{OneAnswer, OnePart}
use Rattle.differences.proofs.differences.Reads as differences
use Rattle.differences.proofs.differences.Kinds as differences·k

pub differences_answer_lem : OneAnswer differences·k.ps differences·k.r differences.Learnt
differences_answer_lem κs a x y e f p q = p.0 ∙ sym q.0

pub differences_out : OnePart differences·k.ps differences·k.r (λ κs x e. e.1.1.0.now) differences.Learnt
differences_out κs a x y e f p q = p.1 ∙ sym q.1
