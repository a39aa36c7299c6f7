-- Each public function's contract, as the toolchain reads it off the source, permits one answer, and one content of each slice that is lent to be written.
-- Assumes nothing.
use mathlib.Core.Path.{sym, ◌∙◌}
use Rattle.answer.specs.Determined.{OneAnswer}
use Rattle.san_reader.proofs.short.read_short.Reads as read_short
use Rattle.san_reader.proofs.short.read_short.Kinds as read-short·k
use Rattle.san_reader.proofs.text.read_text.Reads as read-text
use Rattle.san_reader.proofs.text.read_text.Kinds as read-text·k
use Rattle.san_reader.proofs.text.read_text_in.Reads as read-text-in
use Rattle.san_reader.proofs.text.read_text_in.Kinds as read-text-in·k

pub read_short_answer : OneAnswer read-short·k.ps read-short·k.r read_short.Learnt
read_short_answer κs a x y e f p q = p ∙ sym q

pub read_text_answer : OneAnswer read-text·k.ps read-text·k.r read-text.Learnt
read_text_answer κs a x y e f p q = p ∙ sym q

pub read_text_in_answer : OneAnswer read-text-in·k.ps read-text-in·k.r read-text-in.Learnt
read_text_in_answer κs a x y e f p q = p ∙ sym q
