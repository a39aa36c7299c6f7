-- Each public function's contract, as the toolchain reads it off the source, permits one answer, and one content of each slice that is lent to be written.
-- Assumes nothing.
use mathlib.Core.Path.{sym, ◌∙◌}
use Rattle.answer.specs.Determined.{OneAnswer}
use Rattle.san.proofs.from_san.Reads as from-san
use Rattle.san.proofs.from_san.Kinds as from-san·k
use Rattle.san.proofs.resolve.castling_move.Reads as castling-move
use Rattle.san.proofs.resolve.castling_move.Kinds as castling-move·k
use Rattle.san.proofs.from_san_in.Reads as from-san-in
use Rattle.san.proofs.from_san_in.Kinds as from-san-in·k
use Rattle.san.proofs.from_san_standard.Reads as from-san-standard
use Rattle.san.proofs.from_san_standard.Kinds as from-san-standard·k
use Rattle.san.proofs.resolve.is_pawn_changing_files.Reads as is-pawn-changing-files
use Rattle.san.proofs.resolve.is_pawn_changing_files.Kinds as is-pawn-changing-files·k

pub from_san_answer : OneAnswer from-san·k.ps from-san·k.r from-san.Learnt
from_san_answer κs a x y e f p q = p ∙ sym q

pub castling_move_answer : OneAnswer castling-move·k.ps castling-move·k.r castling-move.Learnt
castling_move_answer κs a x y e f p q = p ∙ sym q

pub from_san_in_answer : OneAnswer from-san-in·k.ps from-san-in·k.r from-san-in.Learnt
from_san_in_answer κs a x y e f p q = p ∙ sym q

pub from_san_standard_answer : OneAnswer from-san-standard·k.ps from-san-standard·k.r from-san-standard.Learnt
from_san_standard_answer κs a x y e f p q = p ∙ sym q

pub is_pawn_changing_files_answer : OneAnswer is-pawn-changing-files·k.ps is-pawn-changing-files·k.r is-pawn-changing-files.Learnt
is_pawn_changing_files_answer κs a x y e f p q = p ∙ sym q
