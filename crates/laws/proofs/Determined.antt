-- Each public function's contract, as the toolchain reads it off the source, permits one answer.
-- Assumes nothing.
use mathlib.Core.Path.{sym, ◌∙◌}
use Rattle.answer.specs.Determined.{OneAnswer}
use Rattle.laws.proofs.ruling.Reads as ruling
use Rattle.laws.proofs.ruling.Kinds as ruling·k
use Rattle.laws.proofs.can_claim.Reads as can-claim
use Rattle.laws.proofs.can_claim.Kinds as can-claim·k

pub ruling_answer_lem : OneAnswer ruling·k.ps ruling·k.r ruling.Learnt
ruling_answer_lem κs a x y e f p q = p ∙ sym q

pub can_claim_answer : OneAnswer can-claim·k.ps can-claim·k.r can-claim.Learnt
can_claim_answer κs a x y e f p q = p ∙ sym q
