-- Each public function's contract, as the toolchain reads it off the source, permits one answer, and one content of each slice that is lent to be written.
-- Assumes nothing.
use mathlib.Core.Path.{sym, ◌∙◌}
use Rattle.answer.specs.Determined.{OneAnswer, OnePart}
use Rattle.roll_writer.proofs.write.Reads as write
use Rattle.roll_writer.proofs.write.Kinds as write·k

pub write_answer_lem : OneAnswer write·k.ps write·k.r write.Learnt
write_answer_lem κs a x y e f p q = p.0 ∙ sym q.0

pub write_out : OnePart write·k.ps write·k.r (λ κs x e. e.1.1.1.0.now) write.Learnt
write_out κs a x y e f p q = p.1 ∙ sym q.1
