-- Each public function's contract, as the toolchain reads it off the source, permits one answer, and one content of each slice that is lent to be written.
-- Assumes nothing.
use mathlib.Core.Path.{sym, ◌∙◌}
use Rattle.answer.specs.Determined.{OneAnswer, OnePart}
use Rattle.decimal.proofs.to_string.Reads as to-string
use Rattle.decimal.proofs.to_string.Kinds as to-string·k

pub to_string_answer : OneAnswer to-string·k.ps to-string·k.r to-string.Learnt
to_string_answer κs a x y e f p q = p.0 ∙ sym q.0

pub to_string_out : OnePart to-string·k.ps to-string·k.r (λ κs x e. e.1.0.now) to-string.Learnt
to_string_out κs a x y e f p q = p.1 ∙ sym q.1
