-- Each public function's contract, as the toolchain reads it off the source, permits one answer, and one content of each slice that is lent to be written.
-- Assumes nothing.
use mathlib.Core.Path.{sym, ◌∙◌}
use Rattle.answer.specs.Determined.{OneAnswer, OnePart}
use Rattle.action.proofs.to_bytes.Reads as to-bytes
use Rattle.action.proofs.to_bytes.Kinds as to-bytes·k
use Rattle.action.proofs.from_bytes.Reads as from_bytes
use Rattle.action.proofs.from_bytes.Kinds as from-bytes·k

pub to_bytes_answer : OneAnswer to-bytes·k.ps to-bytes·k.r to-bytes.Learnt
to_bytes_answer κs a x y e f p q = p.0 ∙ sym q.0

pub to_bytes_out : OnePart to-bytes·k.ps to-bytes·k.r (λ κs x e. e.1.0.now) to-bytes.Learnt
to_bytes_out κs a x y e f p q = p.1 ∙ sym q.1

pub from_bytes_answer : OneAnswer from-bytes·k.ps from-bytes·k.r from_bytes.Learnt
from_bytes_answer κs a x y e f p q = p ∙ sym q
