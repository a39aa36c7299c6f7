-- Each public function's contract, as the toolchain reads it off the source, permits one answer.
-- Assumes nothing.
use mathlib.Core.Path.{sym, ◌∙◌}
use Rattle.answer.specs.Determined.{OneAnswer}
use Rattle.board_after.proofs.board_after.Reads as board-after
use Rattle.board_after.proofs.board_after.Kinds as board-after·k
use Rattle.board_after.proofs.leads_to.Reads as leads-to
use Rattle.board_after.proofs.leads_to.Kinds as leads-to·k
use Rattle.board_after.proofs.leads_to_board.Reads as leads-to-board
use Rattle.board_after.proofs.leads_to_board.Kinds as leads-to-board·k
use Rattle.board_after.proofs.counters_lead.Reads as counters-lead
use Rattle.board_after.proofs.counters_lead.Kinds as counters-lead·k
use Rattle.board_after.proofs.two_apart.Reads as two-apart
use Rattle.board_after.proofs.two_apart.Kinds as two-apart·k
use Rattle.board_after.proofs.corner.Reads as corner
use Rattle.board_after.proofs.corner.Kinds as corner·k
use Rattle.board_after.proofs.takes_in_passing.Reads as takes-in-passing
use Rattle.board_after.proofs.takes_in_passing.Kinds as takes-in-passing·k
use Rattle.board_after.proofs.settled.board_settled.Reads as board-settled
use Rattle.board_after.proofs.settled.board_settled.Kinds as board-settled·k

pub board_after_answer : OneAnswer board-after·k.ps board-after·k.r board-after.Learnt
board_after_answer κs a x y e f p q = p ∙ sym q

pub leads_to_answer : OneAnswer leads-to·k.ps leads-to·k.r leads-to.Learnt
leads_to_answer κs a x y e f p q = p ∙ sym q

pub leads_to_board_answer : OneAnswer leads-to-board·k.ps leads-to-board·k.r leads-to-board.Learnt
leads_to_board_answer κs a x y e f p q = p ∙ sym q

pub counters_lead_answer : OneAnswer counters-lead·k.ps counters-lead·k.r counters-lead.Learnt
counters_lead_answer κs a x y e f p q = p ∙ sym q

pub two_apart_answer : OneAnswer two-apart·k.ps two-apart·k.r two-apart.Learnt
two_apart_answer κs a x y e f p q = p ∙ sym q

pub corner_answer : OneAnswer corner·k.ps corner·k.r corner.Learnt
corner_answer κs a x y e f p q = p ∙ sym q

pub takes_in_passing_answer : OneAnswer takes-in-passing·k.ps takes-in-passing·k.r takes-in-passing.Learnt
takes_in_passing_answer κs a x y e f p q = p ∙ sym q

pub board_settled_answer : OneAnswer board-settled·k.ps board-settled·k.r board-settled.Learnt
board_settled_answer κs a x y e f p q = p ∙ sym q
