-- The settled record: its en passant file is cleared unless a pawn of the side to move stands beside the pawn that moved. That is the rule by which the
-- crate's `Board` keeps the file of a record, and "beside" is what `board_after` goes by when it sets one.
-- Assumes nothing.
use Rattle.std.specs.Prelude.{Bool, cond, not, ◌&&◌, List, ℕ, ◌+◌, ◌-◌, eqb}
use Rattle.answer.specs.Answer.{out_of_range}
use Rattle.square.specs.Piece.{pawn}
use Rattle.square.specs.Square.{square_of}
use Rattle.board_builder.specs.declared.BoardBuilder.{BoardBuilder}
use Rattle.board_builder.specs.declared.Stepped.{Stepped}
use Rattle.board_builder.specs.BoardBuilder.{board, in_range}
use Rattle.board_builder.specs.Steps.{stepped, keeping}
use Rattle.move_rules.specs.After.{stood_beside}

-- "white to move: rank 5, black: rank 4", counted from 0; the pawn that moved stands there on the record's file, which counts from 1
unfoldable pub stepped_rank : ℕ → ℕ
stepped_rank side = cond (eqb side 0) 4 3

unfoldable pub stepped_pawn : ℕ → ℕ → ℕ
stepped_pawn side file = square_of (stepped_rank side) (file - 1)

-- "a pawn of the side to move"
unfoldable pub own_pawn : ℕ → ℕ
own_pawn side = cond (eqb side 0) pawn (pawn + 6)

-- "stands beside the pawn that moved"; where there is no file, 0, none did
unfoldable pub usable : List ℕ → ℕ → ℕ → Bool
usable squares side file = not (eqb file 0) && stood_beside squares (stepped_pawn side file) (own_pawn side)

unfoldable pub settled_file : List ℕ → ℕ → ℕ → ℕ
settled_file squares side file = cond (usable squares side file) file 0

-- a record with another file: every other number stays, its counters too
abbrev pub with_file : BoardBuilder → ℕ → BoardBuilder
with_file b file = keeping b (board b.pieces b.side_to_move b.white_castle_rights b.black_castle_rights file)

unfoldable pub settled : BoardBuilder → BoardBuilder
settled b = with_file b (settled_file b.pieces b.side_to_move b.en_passant)

-- the call: 5 for a record out of range, handed back; otherwise the settled record
unfoldable pub settled_answer : BoardBuilder → Stepped
settled_answer b = cond (in_range b) (stepped 0 (settled b)) (stepped out_of_range b)
