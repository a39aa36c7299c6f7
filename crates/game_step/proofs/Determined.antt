-- Each public function's contract, as the toolchain reads it off the source, permits one answer, and one content of the room.
-- Assumes nothing.
use mathlib.Core.Path.{sym, ◌∙◌}
use Rattle.answer.specs.Determined.{OneAnswer, OnePart}
use Rattle.game_step.proofs.play.Reads as play
use Rattle.game_step.proofs.play.Kinds as play·k
use Rattle.game_step.proofs.game_step.Reads as game-step
use Rattle.game_step.proofs.game_step.Kinds as game-step·k

pub game_step_answer : OneAnswer game-step·k.ps game-step·k.r game-step.Learnt
game_step_answer κs a x y e f p q = p.0 ∙ sym q.0

pub game_step_out : OnePart game-step·k.ps game-step·k.r (λ κs x e. e.1.1.1.1.0.now) game-step.Learnt
game_step_out κs a x y e f p q = p.1 ∙ sym q.1

pub play_answer_lem : OneAnswer play·k.ps play·k.r play.Learnt
play_answer_lem κs a x y e f p q = p.0 ∙ sym q.0

pub play_out : OnePart play·k.ps play·k.r (λ κs x e. e.1.1.1.0.now) play.Learnt
play_out κs a x y e f p q = p.1 ∙ sym q.1
