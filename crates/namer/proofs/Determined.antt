-- Each public function's contract, as the toolchain reads it off the source, permits one answer, and one content of each slice that is lent to be written.
-- Assumes nothing.
use mathlib.Core.Path.{sym, ◌∙◌}
use Rattle.answer.specs.Determined.{OneAnswer, OnePart}
use Rattle.namer.proofs.to_san.Reads as to-san
use Rattle.namer.proofs.to_san.Kinds as to-san·k
use Rattle.namer.proofs.to_san_standard.Reads as to-san-standard
use Rattle.namer.proofs.to_san_standard.Kinds as to-san-standard·k

pub to_san_answer : OneAnswer to-san·k.ps to-san·k.r to-san.Learnt
to_san_answer κs a x y e f p q = p.0 ∙ sym q.0

pub to_san_out : OnePart to-san·k.ps to-san·k.r (λ κs x e. e.1.1.1.0.now) to-san.Learnt
to_san_out κs a x y e f p q = p.1 ∙ sym q.1

pub to_san_standard_answer : OneAnswer to-san-standard·k.ps to-san-standard·k.r to-san-standard.Learnt
to_san_standard_answer κs a x y e f p q = p.0 ∙ sym q.0

pub to_san_standard_out : OnePart to-san-standard·k.ps to-san-standard·k.r (λ κs x e. e.1.1.1.0.now) to-san-standard.Learnt
to_san_standard_out κs a x y e f p q = p.1 ∙ sym q.1
