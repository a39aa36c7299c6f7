-- The public function's contract, as the toolchain reads it off the source, permits one answer.
-- Assumes nothing.
use mathlib.Core.Path.{sym, ◌∙◌}
use Rattle.answer.specs.Determined.{OneAnswer}
use Rattle.judge.proofs.list_judged.Reads as list-judged
use Rattle.judge.proofs.list_judged.Kinds as list-judged·k

pub list_judged_answer : OneAnswer list-judged·k.ps list-judged·k.r list-judged.Learnt
list_judged_answer κs a x y e f p q = p ∙ sym q
