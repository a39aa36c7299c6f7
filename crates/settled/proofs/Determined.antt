-- The public function's contract, as the toolchain reads it off the source, permits one answer, and one content of the room.
-- Assumes nothing.
use mathlib.Core.Path.{sym, ◌∙◌}
use Rattle.answer.specs.Determined.{OneAnswer, OnePart}
use Rattle.settled.proofs.fen_settled.Reads as fen-settled
use Rattle.settled.proofs.fen_settled.Kinds as fen-settled·k

pub fen_settled_answer : OneAnswer fen-settled·k.ps fen-settled·k.r fen-settled.Learnt
fen_settled_answer κs a x y e f p q = p.0 ∙ sym q.0

pub fen_settled_out : OnePart fen-settled·k.ps fen-settled·k.r (λ κs x e. e.1.0.now) fen-settled.Learnt
fen_settled_out κs a x y e f p q = p.1 ∙ sym q.1
