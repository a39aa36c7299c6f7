-- Each public function's contract, as the toolchain reads it off the source, permits one answer, and one content of each slice that is lent to be written.
-- Assumes nothing.
use mathlib.Core.Path.{sym, ◌∙◌}
use Rattle.answer.specs.Determined.{OneAnswer, OnePart}
use Rattle.square.proofs.make_square.Reads as make-square
use Rattle.square.proofs.make_square.Kinds as make-square·k
use Rattle.square.proofs.get_rank.Reads as get-rank
use Rattle.square.proofs.get_rank.Kinds as get-rank·k
use Rattle.square.proofs.get_file.Reads as get-file
use Rattle.square.proofs.get_file.Kinds as get-file·k
use Rattle.square.proofs.to_my_backrank.Reads as to-my-backrank
use Rattle.square.proofs.to_my_backrank.Kinds as to-my-backrank·k
use Rattle.square.proofs.from_bytes.Reads as from_bytes
use Rattle.square.proofs.from_bytes.Kinds as from-bytes·k
use Rattle.square.proofs.from_str.Reads as from-str
use Rattle.square.proofs.from_str.Kinds as from-str·k
use Rattle.square.proofs.told.Reads as told
use Rattle.square.proofs.told.Kinds as told·k
use Rattle.square.proofs.to_string.Reads as to-string
use Rattle.square.proofs.to_string.Kinds as to-string·k
use Rattle.square.proofs.letter_of_piece.Reads as letter-of-piece
use Rattle.square.proofs.letter_of_piece.Kinds as letter-of-piece·k
use Rattle.square.proofs.kind_of.Reads as kind-of
use Rattle.square.proofs.kind_of.Kinds as kind-of·k

pub make_square_answer : OneAnswer make-square·k.ps make-square·k.r make-square.Learnt
make_square_answer κs a x y e f p q = p ∙ sym q

pub get_rank_answer : OneAnswer get-rank·k.ps get-rank·k.r get-rank.Learnt
get_rank_answer κs a x y e f p q = p ∙ sym q

pub get_file_answer : OneAnswer get-file·k.ps get-file·k.r get-file.Learnt
get_file_answer κs a x y e f p q = p ∙ sym q

pub to_my_backrank_answer : OneAnswer to-my-backrank·k.ps to-my-backrank·k.r to-my-backrank.Learnt
to_my_backrank_answer κs a x y e f p q = p ∙ sym q

pub from_bytes_answer : OneAnswer from-bytes·k.ps from-bytes·k.r from_bytes.Learnt
from_bytes_answer κs a x y e f p q = p ∙ sym q

pub from_str_answer : OneAnswer from-str·k.ps from-str·k.r from-str.Learnt
from_str_answer κs a x y e f p q = p ∙ sym q

pub told_answer : OneAnswer told·k.ps told·k.r told.Learnt
told_answer κs a x y e f p q = p ∙ sym q

pub to_string_answer : OneAnswer to-string·k.ps to-string·k.r to-string.Learnt
to_string_answer κs a x y e f p q = p.0 ∙ sym q.0

pub to_string_out : OnePart to-string·k.ps to-string·k.r (λ κs x e. e.1.0.now) to-string.Learnt
to_string_out κs a x y e f p q = p.1 ∙ sym q.1

pub letter_of_piece_answer : OneAnswer letter-of-piece·k.ps letter-of-piece·k.r letter-of-piece.Learnt
letter_of_piece_answer κs a x y e f p q = p ∙ sym q

pub kind_of_answer : OneAnswer kind-of·k.ps kind-of·k.r kind-of.Learnt
kind_of_answer κs a x y e f p q = p ∙ sym q
