-- Each public function's contract, as the toolchain reads it off the source, permits one answer, and one content of each slice that is lent to be written.
-- Assumes nothing.
use mathlib.Core.Path.{sym, ◌∙◌}
use Rattle.answer.specs.Determined.{OneAnswer, OnePart}
use Rattle.board_builder.proofs.counters_in_range.Reads as counters-in-range
use Rattle.board_builder.proofs.counters_in_range.Kinds as counters-in-range·k
use Rattle.board_builder.proofs.numbers_in_range.Reads as numbers-in-range
use Rattle.board_builder.proofs.numbers_in_range.Kinds as numbers-in-range·k
use Rattle.board_builder.proofs.BoardBuilder.new.Reads as new
use Rattle.board_builder.proofs.BoardBuilder.new.Kinds as new·k
use Rattle.board_builder.proofs.BoardBuilder.none.Reads as none
use Rattle.board_builder.proofs.BoardBuilder.none.Kinds as none·k
use Rattle.board_builder.proofs.BoardBuilder.default.Reads as default
use Rattle.board_builder.proofs.BoardBuilder.default.Kinds as default·k
use Rattle.board_builder.proofs.BoardBuilder.from_numbers.Reads as from-numbers
use Rattle.board_builder.proofs.BoardBuilder.from_numbers.Kinds as from-numbers·k
use Rattle.board_builder.proofs.BoardBuilder.in_range.Reads as in_range_lem
use Rattle.board_builder.proofs.BoardBuilder.in_range.Kinds as in-range·k
use Rattle.board_builder.proofs.BoardBuilder.get_piece.Reads as get-piece
use Rattle.board_builder.proofs.BoardBuilder.get_piece.Kinds as get-piece·k
use Rattle.board_builder.proofs.BoardBuilder.get_side_to_move.Reads as get-side-to-move
use Rattle.board_builder.proofs.BoardBuilder.get_side_to_move.Kinds as get-side-to-move·k
use Rattle.board_builder.proofs.BoardBuilder.get_castle_rights.Reads as get-castle-rights
use Rattle.board_builder.proofs.BoardBuilder.get_castle_rights.Kinds as get-castle-rights·k
use Rattle.board_builder.proofs.BoardBuilder.get_en_passant.Reads as get-en-passant
use Rattle.board_builder.proofs.BoardBuilder.get_en_passant.Kinds as get-en-passant·k
use Rattle.board_builder.proofs.BoardBuilder.side_to_move.Reads as side_to_move
use Rattle.board_builder.proofs.BoardBuilder.side_to_move.Kinds as side-to-move·k
use Rattle.board_builder.proofs.BoardBuilder.castle_rights.Reads as castle_rights
use Rattle.board_builder.proofs.BoardBuilder.castle_rights.Kinds as castle-rights·k
use Rattle.board_builder.proofs.BoardBuilder.piece.Reads as piece
use Rattle.board_builder.proofs.BoardBuilder.piece.Kinds as piece·k
use Rattle.board_builder.proofs.BoardBuilder.clear_square.Reads as clear_square_fact
use Rattle.board_builder.proofs.BoardBuilder.clear_square.Kinds as clear-square·k
use Rattle.board_builder.proofs.BoardBuilder.en_passant.Reads as en_passant
use Rattle.board_builder.proofs.BoardBuilder.en_passant.Kinds as en-passant·k
use Rattle.board_builder.proofs.BoardBuilder.half_moves.Reads as half_moves
use Rattle.board_builder.proofs.BoardBuilder.half_moves.Kinds as half-moves·k
use Rattle.board_builder.proofs.BoardBuilder.full_moves.Reads as full_moves
use Rattle.board_builder.proofs.BoardBuilder.full_moves.Kinds as full-moves·k
use Rattle.board_builder.proofs.BoardBuilder.to_bytes.Reads as to-bytes
use Rattle.board_builder.proofs.BoardBuilder.to_bytes.Kinds as to-bytes·k

pub counters_in_range_answer : OneAnswer counters-in-range·k.ps counters-in-range·k.r counters-in-range.Learnt
counters_in_range_answer κs a x y e f p q = p ∙ sym q

pub numbers_in_range_answer : OneAnswer numbers-in-range·k.ps numbers-in-range·k.r numbers-in-range.Learnt
numbers_in_range_answer κs a x y e f p q = p ∙ sym q

pub new_answer : OneAnswer new·k.ps new·k.r new.Learnt
new_answer κs a x y e f p q = p ∙ sym q

pub none_answer : OneAnswer none·k.ps none·k.r none.Learnt
none_answer κs a x y e f p q = p ∙ sym q

pub default_answer : OneAnswer default·k.ps default·k.r default.Learnt
default_answer κs a x y e f p q = p ∙ sym q

pub from_numbers_answer : OneAnswer from-numbers·k.ps from-numbers·k.r from-numbers.Learnt
from_numbers_answer κs a x y e f p q = p ∙ sym q

pub in_range_answer : OneAnswer in-range·k.ps in-range·k.r in_range_lem.Learnt
in_range_answer κs a x y e f p q = p ∙ sym q

pub get_piece_answer : OneAnswer get-piece·k.ps get-piece·k.r get-piece.Learnt
get_piece_answer κs a x y e f p q = p ∙ sym q

pub get_side_to_move_answer : OneAnswer get-side-to-move·k.ps get-side-to-move·k.r get-side-to-move.Learnt
get_side_to_move_answer κs a x y e f p q = p ∙ sym q

pub get_castle_rights_answer : OneAnswer get-castle-rights·k.ps get-castle-rights·k.r get-castle-rights.Learnt
get_castle_rights_answer κs a x y e f p q = p ∙ sym q

pub get_en_passant_answer : OneAnswer get-en-passant·k.ps get-en-passant·k.r get-en-passant.Learnt
get_en_passant_answer κs a x y e f p q = p ∙ sym q

pub side_to_move_answer : OneAnswer side-to-move·k.ps side-to-move·k.r side_to_move.Learnt
side_to_move_answer κs a x y e f p q = p ∙ sym q

pub castle_rights_answer : OneAnswer castle-rights·k.ps castle-rights·k.r castle_rights.Learnt
castle_rights_answer κs a x y e f p q = p ∙ sym q

pub piece_answer : OneAnswer piece·k.ps piece·k.r piece.Learnt
piece_answer κs a x y e f p q = p ∙ sym q

pub clear_square_answer : OneAnswer clear-square·k.ps clear-square·k.r clear_square_fact.Learnt
clear_square_answer κs a x y e f p q = p ∙ sym q

pub en_passant_answer : OneAnswer en-passant·k.ps en-passant·k.r en_passant.Learnt
en_passant_answer κs a x y e f p q = p ∙ sym q

pub half_moves_answer : OneAnswer half-moves·k.ps half-moves·k.r half_moves.Learnt
half_moves_answer κs a x y e f p q = p ∙ sym q

pub full_moves_answer : OneAnswer full-moves·k.ps full-moves·k.r full_moves.Learnt
full_moves_answer κs a x y e f p q = p ∙ sym q

pub to_bytes_answer : OneAnswer to-bytes·k.ps to-bytes·k.r to-bytes.Learnt
to_bytes_answer κs a x y e f p q = p.0 ∙ sym q.0

pub to_bytes_out : OnePart to-bytes·k.ps to-bytes·k.r (λ κs x e. e.1.0.now) to-bytes.Learnt
to_bytes_out κs a x y e f p q = p.1 ∙ sym q.1
