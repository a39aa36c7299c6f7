-- Each public function's contract, as the toolchain reads it off the source, permits one answer, and one content of each slice that is lent to be written.
-- Assumes nothing.
use mathlib.Core.Path.{sym, ◌∙◌}
use Rattle.answer.specs.Determined.{OneAnswer}
use Rattle.actions.proofs.move_at.Reads as move_at
use Rattle.actions.proofs.move_at.Kinds as move-at·k
use Rattle.actions.proofs.moves_in.Reads as moves-in
use Rattle.actions.proofs.moves_in.Kinds as moves-in·k
use Rattle.actions.proofs.all_held.Reads as all_held
use Rattle.actions.proofs.all_held.Kinds as all-held·k
use Rattle.actions.proofs.last.Reads as last
use Rattle.actions.proofs.last.Kinds as last·k

pub move_at_answer : OneAnswer move-at·k.ps move-at·k.r move_at.Learnt
move_at_answer κs a x y e f p q = p ∙ sym q

pub moves_in_answer : OneAnswer moves-in·k.ps moves-in·k.r moves-in.Learnt
moves_in_answer κs a x y e f p q = p ∙ sym q

pub all_held_answer : OneAnswer all-held·k.ps all-held·k.r all_held.Learnt
all_held_answer κs a x y e f p q = p ∙ sym q

pub last_answer : OneAnswer last·k.ps last·k.r last.Learnt
last_answer κs a x y e f p q = p ∙ sym q
