-- Each public function's contract, as the toolchain reads it off the source, permits one answer.
-- Assumes nothing.
use mathlib.Core.Path.{sym, ◌∙◌}
use Rattle.answer.specs.Determined.{OneAnswer, OnePart}
use Rattle.pgn.proofs.check.Reads as check
use Rattle.pgn.proofs.check.Kinds as check·k
use Rattle.pgn.proofs.next.Reads as next
use Rattle.pgn.proofs.next.Kinds as next·k
use Rattle.pgn.proofs.next_main.Reads as next-main
use Rattle.pgn.proofs.next_main.Kinds as next-main·k
use Rattle.pgn.proofs.next_across.Reads as next-across
use Rattle.pgn.proofs.next_across.Kinds as next-across·k
use Rattle.pgn.proofs.part.Reads as part
use Rattle.pgn.proofs.part.Kinds as part·k
use Rattle.pgn.proofs.reader.first_move.Reads as first-move
use Rattle.pgn.proofs.reader.first_move.Kinds as first-move·k
use Rattle.pgn.proofs.reader.Reader.new.Reads as reader-new
use Rattle.pgn.proofs.reader.Reader.new.Kinds as reader-new·k
use Rattle.pgn.proofs.reader.Reader.step.Reads as reader-step
use Rattle.pgn.proofs.reader.Reader.step.Kinds as reader-step·k
use Rattle.pgn.proofs.reader.Reader.moved.Reads as reader-moved
use Rattle.pgn.proofs.reader.Reader.moved.Kinds as reader-moved·k

pub check_answer_lem : OneAnswer check·k.ps check·k.r check.Learnt
check_answer_lem κs a x y e f p q = p ∙ sym q

pub next_answer : OneAnswer next·k.ps next·k.r next.Learnt
next_answer κs a x y e f p q = p ∙ sym q

pub part_answer : OnePart part·k.ps part·k.r (λ κs x e. x.now) part.Learnt
part_answer κs a x y e f p q = p ∙ sym q

pub next_main_answer : OneAnswer next-main·k.ps next-main·k.r next-main.Learnt
next_main_answer κs a x y e f p q = p ∙ sym q

pub next_across_answer : OneAnswer next-across·k.ps next-across·k.r next-across.Learnt
next_across_answer κs a x y e f p q = p ∙ sym q

pub first_move_answer : OneAnswer first-move·k.ps first-move·k.r first-move.Learnt
first_move_answer κs a x y e f p q = p ∙ sym q

pub reader_new_answer : OneAnswer reader-new·k.ps reader-new·k.r reader-new.Learnt
reader_new_answer κs a x y e f p q = p ∙ sym q

pub reader_step_answer : OneAnswer reader-step·k.ps reader-step·k.r reader-step.Learnt
reader_step_answer κs a x y e f p q = p ∙ sym q

pub reader_moved_answer : OneAnswer reader-moved·k.ps reader-moved·k.r reader-moved.Learnt
reader_moved_answer κs a x y e f p q = p ∙ sym q
