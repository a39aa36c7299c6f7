-- Each public function's contract, as the toolchain reads it off the source, permits one answer, and one content of each slice that is lent to be written.
-- Assumes nothing.
use mathlib.Core.Path.{sym, ◌∙◌}
use Rattle.answer.specs.Determined.{OneAnswer}
use Rattle.version.proofs.number.Reads as number
use Rattle.version.proofs.number.Kinds as number·k

pub number_answer_lem : OneAnswer number·k.ps number·k.r number.Learnt
number_answer_lem κs a x y e f p q = p ∙ sym q
