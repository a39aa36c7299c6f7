-- Each public function's contract, as the toolchain reads it off the source, permits one answer, and one content of each slice that is lent to be written.
-- Assumes nothing.
use mathlib.Core.Path.{sym, ◌∙◌}
use Rattle.answer.specs.Determined.{OneAnswer, OnePart}
use Rattle.fen_writer.proofs.write_fen.Reads as write-fen
use Rattle.fen_writer.proofs.write_fen.Kinds as write-fen·k
use Rattle.fen_writer.proofs.write_full.Reads as write-full
use Rattle.fen_writer.proofs.write_full.Kinds as write-full·k

pub write_fen_answer : OneAnswer write-fen·k.ps write-fen·k.r write-fen.Learnt
write_fen_answer κs a x y e f p q = p.0 ∙ sym q.0

pub write_fen_out : OnePart write-fen·k.ps write-fen·k.r (λ κs x e. e.1.0.now) write-fen.Learnt
write_fen_out κs a x y e f p q = p.1 ∙ sym q.1

pub write_full_answer : OneAnswer write-full·k.ps write-full·k.r write-full.Learnt
write_full_answer κs a x y e f p q = p.0 ∙ sym q.0

pub write_full_out : OnePart write-full·k.ps write-full·k.r (λ κs x e. e.1.0.now) write-full.Learnt
write_full_out κs a x y e f p q = p.1 ∙ sym q.1
