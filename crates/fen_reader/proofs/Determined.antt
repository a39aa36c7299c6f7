-- Each public function's contract, as the toolchain reads it off the source, permits one answer, and one content of each slice that is lent to be written.
-- Assumes nothing.
use mathlib.Core.Path.{sym, ◌∙◌}
use Rattle.answer.specs.Determined.{OneAnswer, OnePart}
use Rattle.fen_reader.proofs.read_fen.Reads as read-fen
use Rattle.fen_reader.proofs.read_fen.Kinds as read-fen·k
use Rattle.fen_reader.proofs.full.read_full.Reads as read-full
use Rattle.fen_reader.proofs.full.read_full.Kinds as read-full·k
use Rattle.fen_reader.proofs.lines.line_count.Reads as line-count
use Rattle.fen_reader.proofs.lines.line_count.Kinds as line-count·k
use Rattle.fen_reader.proofs.lines.line_end.Reads as line-end
use Rattle.fen_reader.proofs.lines.line_end.Kinds as line-end·k
use Rattle.fen_reader.proofs.page.read_page.Reads as read-page
use Rattle.fen_reader.proofs.page.read_page.Kinds as read-page·k

pub read_fen_answer : OneAnswer read-fen·k.ps read-fen·k.r read-fen.Learnt
read_fen_answer κs a x y e f p q = p ∙ sym q

pub read_full_answer : OneAnswer read-full·k.ps read-full·k.r read-full.Learnt
read_full_answer κs a x y e f p q = p ∙ sym q

pub line_count_answer : OneAnswer line-count·k.ps line-count·k.r line-count.Learnt
line_count_answer κs a x y e f p q = p ∙ sym q

pub line_end_answer : OneAnswer line-end·k.ps line-end·k.r line-end.Learnt
line_end_answer κs a x y e f p q = p ∙ sym q

pub read_page_answer : OneAnswer read-page·k.ps read-page·k.r read-page.Learnt
read_page_answer κs a x y e f p q = p.0 ∙ sym q.0

pub read_page_records : OnePart read-page·k.ps read-page·k.r (λ κs x e. e.1.0.now) read-page.Learnt
read_page_records κs a x y e f p q = p.1.0 ∙ sym q.1.0

pub read_page_told : OnePart read-page·k.ps read-page·k.r (λ κs x e. e.1.1.0.now) read-page.Learnt
read_page_told κs a x y e f p q = p.1.1 ∙ sym q.1.1
