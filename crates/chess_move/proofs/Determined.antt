-- Each public function's contract, as the toolchain reads it off the source, permits one answer, and one content of each slice that is lent to be written.
-- Assumes nothing.
use mathlib.Core.Path.{sym, ◌∙◌}
use Rattle.answer.specs.Determined.{OneAnswer, OnePart}
use Rattle.chess_move.proofs.source_of.Reads as source_of
use Rattle.chess_move.proofs.source_of.Kinds as source-of·k
use Rattle.chess_move.proofs.dest_of.Reads as dest-of
use Rattle.chess_move.proofs.dest_of.Kinds as dest-of·k
use Rattle.chess_move.proofs.ChessMove.from_number.Reads as from-number
use Rattle.chess_move.proofs.ChessMove.from_number.Kinds as from-number·k
use Rattle.chess_move.proofs.ChessMove.number.Reads as number
use Rattle.chess_move.proofs.ChessMove.number.Kinds as number·k
use Rattle.chess_move.proofs.from_str.Reads as from-str
use Rattle.chess_move.proofs.from_str.Kinds as from-str·k
use Rattle.chess_move.proofs.to_string.Reads as to-string
use Rattle.chess_move.proofs.to_string.Kinds as to-string·k

pub source_of_answer : OneAnswer source-of·k.ps source-of·k.r source_of.Learnt
source_of_answer κs a x y e f p q = p ∙ sym q

pub dest_of_answer : OneAnswer dest-of·k.ps dest-of·k.r dest-of.Learnt
dest_of_answer κs a x y e f p q = p ∙ sym q

pub from_number_answer : OneAnswer from-number·k.ps from-number·k.r from-number.Learnt
from_number_answer κs a x y e f p q = p ∙ sym q

pub number_answer_lem : OneAnswer number·k.ps number·k.r number.Learnt
number_answer_lem κs a x y e f p q = p ∙ sym q

pub from_str_answer : OneAnswer from-str·k.ps from-str·k.r from-str.Learnt
from_str_answer κs a x y e f p q = p ∙ sym q

pub to_string_answer : OneAnswer to-string·k.ps to-string·k.r to-string.Learnt
to_string_answer κs a x y e f p q = p.0 ∙ sym q.0

pub to_string_out : OnePart to-string·k.ps to-string·k.r (λ κs x e. e.1.0.now) to-string.Learnt
to_string_out κs a x y e f p q = p.1 ∙ sym q.1
