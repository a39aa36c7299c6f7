-- Each public function's contract, as the toolchain reads it off the source, permits one answer, and one content of each slice that is lent to be written.
-- Assumes nothing.
use mathlib.Core.Path.{sym, ◌∙◌}
use Rattle.answer.specs.Determined.{OneAnswer, OnePart}
use Rattle.san_writer.proofs.write_san.Reads as write-san
use Rattle.san_writer.proofs.write_san.Kinds as write-san·k
use Rattle.san_writer.proofs.write_in.Reads as write-in
use Rattle.san_writer.proofs.write_in.Kinds as write-in·k

pub write_san_answer : OneAnswer write-san·k.ps write-san·k.r write-san.Learnt
write_san_answer κs a x y e f p q = p.0 ∙ sym q.0

pub write_san_out : OnePart write-san·k.ps write-san·k.r (λ κs x e. e.1.1.1.1.0.now) write-san.Learnt
write_san_out κs a x y e f p q = p.1 ∙ sym q.1

pub write_in_answer : OneAnswer write-in·k.ps write-in·k.r write-in.Learnt
write_in_answer κs a x y e f p q = p.0 ∙ sym q.0

pub write_in_out : OnePart write-in·k.ps write-in·k.r (λ κs x e. e.1.1.1.1.1.0.now) write-in.Learnt
write_in_out κs a x y e f p q = p.1 ∙ sym q.1
