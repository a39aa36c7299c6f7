-- Each public function's contract, as the toolchain reads it off the source, permits one answer, and one content of the room that is lent.
-- Assumes nothing.
use mathlib.Core.Path.{sym, ◌∙◌}
use Rattle.answer.specs.Determined.{OneAnswer, OnePart}
use Rattle.legal.proofs.legal_list.Reads as legal-list
use Rattle.legal.proofs.legal_list.Kinds as legal-list·k
use Rattle.legal.proofs.in_check.Reads as in_check_fact
use Rattle.legal.proofs.in_check.Kinds as in-check·k

pub legal_list_answer : OneAnswer legal-list·k.ps legal-list·k.r legal-list.Learnt
legal_list_answer κs a x y e f p q = p.0 ∙ sym q.0

pub legal_list_out : OnePart legal-list·k.ps legal-list·k.r (λ κs x e. e.1.0.now) legal-list.Learnt
legal_list_out κs a x y e f p q = p.1 ∙ sym q.1

pub in_check_answer : OneAnswer in-check·k.ps in-check·k.r in_check_fact.Learnt
in_check_answer κs a x y e f p q = p ∙ sym q
