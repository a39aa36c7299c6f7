-- Each public function's contract, as the toolchain reads it off the source, permits one answer, and one content of each slice that is lent to be written.
-- Assumes nothing.
use mathlib.Core.Path.{sym, ◌∙◌}
use Rattle.answer.specs.Determined.{OneAnswer}
use Rattle.ending.proofs.by_last_action.Reads as by-last-action
use Rattle.ending.proofs.by_last_action.Kinds as by-last-action·k
use Rattle.ending.proofs.result.Reads as result
use Rattle.ending.proofs.result.Kinds as result·k
use Rattle.ending.proofs.offer_stands.Reads as offer-stands
use Rattle.ending.proofs.offer_stands.Kinds as offer-stands·k

pub by_last_action_answer : OneAnswer by-last-action·k.ps by-last-action·k.r by-last-action.Learnt
by_last_action_answer κs a x y e f p q = p ∙ sym q

pub result_answer_lem : OneAnswer result·k.ps result·k.r result.Learnt
result_answer_lem κs a x y e f p q = p ∙ sym q

pub offer_stands_answer : OneAnswer offer-stands·k.ps offer-stands·k.r offer-stands.Learnt
offer_stands_answer κs a x y e f p q = p ∙ sym q
