-- Each public function's contract, as the toolchain reads it off the source, permits one answer, and one content of each slice that is lent to be written.
-- Assumes nothing.
use mathlib.Core.Path.{sym, ◌∙◌}
use Rattle.answer.specs.Determined.{OneAnswer, OnePart}
use Rattle.roll_reader.proofs.read.Reads as read
use Rattle.roll_reader.proofs.read.Kinds as read·k
use Rattle.roll_reader.proofs.read_old.Reads as read·old
use Rattle.roll_reader.proofs.read_old.Kinds as read·old·k
use Rattle.roll_reader.proofs.check.Reads as check
use Rattle.roll_reader.proofs.check.Kinds as check·k

pub read_answer_lem : OneAnswer read·k.ps read·k.r read.Learnt
read_answer_lem κs a x y e f p q = p.0 ∙ sym q.0

pub read_part : OnePart read·k.ps read·k.r (λ κs x e. e.1.0.now) read.Learnt
read_part κs a x y e f p q = p.1 ∙ sym q.1

pub read_old_answer : OneAnswer read·old·k.ps read·old·k.r read·old.Learnt
read_old_answer κs a x y e f p q = p.0 ∙ sym q.0

pub read_old_part : OnePart read·old·k.ps read·old·k.r (λ κs x e. e.1.0.now) read·old.Learnt
read_old_part κs a x y e f p q = p.1 ∙ sym q.1

pub check_answer_lem : OneAnswer check·k.ps check·k.r check.Learnt
check_answer_lem κs a x y e f p q = p ∙ sym q
