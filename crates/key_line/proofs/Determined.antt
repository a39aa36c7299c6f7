-- Each public function's contract, as the toolchain reads it off the source, permits one answer, and one content of each slice that is lent to be written.
-- Assumes nothing.
use mathlib.Core.Path.{sym, ◌∙◌}
use Rattle.answer.specs.Determined.{OneAnswer, OnePart}
use Rattle.key_line.proofs.key_line.Reads as key-line
use Rattle.key_line.proofs.key_line.Kinds as key-line·k
use Rattle.key_line.proofs.page.key_page.Reads as key-page
use Rattle.key_line.proofs.page.key_page.Kinds as key-page·k

pub key_line_answer : OneAnswer key-line·k.ps key-line·k.r key-line.Learnt
key_line_answer κs a x y e f p q = p.0 ∙ sym q.0

pub key_line_out : OnePart key-line·k.ps key-line·k.r (λ κs x e. e.1.0.now) key-line.Learnt
key_line_out κs a x y e f p q = p.1 ∙ sym q.1

pub key_page_answer : OneAnswer key-page·k.ps key-page·k.r key-page.Learnt
key_page_answer κs a x y e f p q = p.0 ∙ sym q.0

pub key_page_out : OnePart key-page·k.ps key-page·k.r (λ κs x e. e.1.0.now) key-page.Learnt
key_page_out κs a x y e f p q = p.1.0 ∙ sym q.1.0
