-- What the builder says about its record, with 5 where a number of the record, or the number in the question, is out of range.
-- Assumes nothing.
use Rattle.std.specs.Prelude.{ℕ, ◌-◌, cond, ◌&&◌, leb, eqb, get_or}
use Rattle.answer.specs.declared.Answer.{Answer}
use Rattle.answer.specs.Answer.{in_range_or5}
use Rattle.square.specs.Square.{square_of}
use Rattle.board_builder.specs.declared.BoardBuilder.{BoardBuilder}
use Rattle.board_builder.specs.BoardBuilder.{in_range}

abbrev pub piece_on : BoardBuilder → ℕ → Answer
piece_on b square = in_range_or5 (in_range b && leb square 63) (get_or b.pieces square 0)

abbrev pub side_answer : BoardBuilder → Answer
side_answer b = in_range_or5 (in_range b) b.side_to_move

abbrev pub rights_answer : BoardBuilder → ℕ → Answer
rights_answer b colour = in_range_or5 (in_range b && leb colour 1) (cond (eqb colour 0) b.white_castle_rights b.black_castle_rights)

-- the rank behind the pawn that went two squares: 6 with white to move, 3 with black (PGN standard 16.1.3.4), counted from 0
abbrev pub en_passant_rank : ℕ → ℕ
en_passant_rank side = cond (eqb side 0) 5 2

-- the square on the standard's rank, 0 where there is none: a1 is never such a square
abbrev pub en_passant_at : ℕ → ℕ → ℕ
en_passant_at side file = cond (eqb file 0) 0 (square_of (en_passant_rank side) (file - 1))

abbrev pub en_passant_square : BoardBuilder → Answer
en_passant_square b = in_range_or5 (in_range b) (en_passant_at b.side_to_move b.en_passant)
