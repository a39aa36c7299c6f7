-- Each public function's contract, as the toolchain reads it off the source, permits one answer, and one content of each slice that is lent to be written.
-- Assumes nothing.
use mathlib.Core.Path.{sym, ◌∙◌}
use Rattle.answer.specs.Determined.{OneAnswer, OnePart}
use Rattle.game.proofs.offer_draw.Reads as offer-draw
use Rattle.game.proofs.offer_draw.Kinds as offer-draw·k
use Rattle.game.proofs.accept_draw.Reads as accept-draw
use Rattle.game.proofs.accept_draw.Kinds as accept-draw·k
use Rattle.game.proofs.declare_draw.Reads as declare-draw
use Rattle.game.proofs.declare_draw.Kinds as declare-draw·k
use Rattle.game.proofs.resign.Reads as resign
use Rattle.game.proofs.resign.Kinds as resign·k
use Rattle.game.proofs.make_move.Reads as make-move
use Rattle.game.proofs.make_move.Kinds as make-move·k
use Rattle.game.proofs.start.Reads as start
use Rattle.game.proofs.start.Kinds as start·k
use Rattle.game.proofs.result.Reads as result
use Rattle.game.proofs.result.Kinds as result·k
use Rattle.game.proofs.can_declare_draw.Reads as can-declare-draw
use Rattle.game.proofs.can_declare_draw.Kinds as can-declare-draw·k

pub offer_draw_answer : OneAnswer offer-draw·k.ps offer-draw·k.r offer-draw.Learnt
offer_draw_answer κs a x y e f p q = p.0 ∙ sym q.0

pub offer_draw_acts : OnePart offer-draw·k.ps offer-draw·k.r (λ κs x e. e.0.now) offer-draw.Learnt
offer_draw_acts κs a x y e f p q = p.1 ∙ sym q.1

pub accept_draw_answer : OneAnswer accept-draw·k.ps accept-draw·k.r accept-draw.Learnt
accept_draw_answer κs a x y e f p q = p.0 ∙ sym q.0

pub accept_draw_acts : OnePart accept-draw·k.ps accept-draw·k.r (λ κs x e. e.0.now) accept-draw.Learnt
accept_draw_acts κs a x y e f p q = p.1 ∙ sym q.1

pub declare_draw_answer : OneAnswer declare-draw·k.ps declare-draw·k.r declare-draw.Learnt
declare_draw_answer κs a x y e f p q = p.0 ∙ sym q.0

pub declare_draw_acts : OnePart declare-draw·k.ps declare-draw·k.r (λ κs x e. e.0.now) declare-draw.Learnt
declare_draw_acts κs a x y e f p q = p.1 ∙ sym q.1

pub resign_answer : OneAnswer resign·k.ps resign·k.r resign.Learnt
resign_answer κs a x y e f p q = p.0 ∙ sym q.0

pub resign_acts : OnePart resign·k.ps resign·k.r (λ κs x e. e.0.now) resign.Learnt
resign_acts κs a x y e f p q = p.1 ∙ sym q.1

pub make_move_answer : OneAnswer make-move·k.ps make-move·k.r make-move.Learnt
make_move_answer κs a x y e f p q = p.0 ∙ sym q.0

pub make_move_acts : OnePart make-move·k.ps make-move·k.r (λ κs x e. e.0.now) make-move.Learnt
make_move_acts κs a x y e f p q = p.1.0 ∙ sym q.1.0

pub make_move_ps : OnePart make-move·k.ps make-move·k.r (λ κs x e. e.1.0.now) make-move.Learnt
make_move_ps κs a x y e f p q = p.1.1 ∙ sym q.1.1

pub start_answer_lem : OneAnswer start·k.ps start·k.r start.Learnt
start_answer_lem κs a x y e f p q = p.0 ∙ sym q.0

pub start_ps : OnePart start·k.ps start·k.r (λ κs x e. e.1.0.now) start.Learnt
start_ps κs a x y e f p q = p.1 ∙ sym q.1

pub result_answer_lem : OneAnswer result·k.ps result·k.r result.Learnt
result_answer_lem κs a x y e f p q = p ∙ sym q

pub can_declare_draw_answer : OneAnswer can-declare-draw·k.ps can-declare-draw·k.r can-declare-draw.Learnt
can_declare_draw_answer κs a x y e f p q = p ∙ sym q
