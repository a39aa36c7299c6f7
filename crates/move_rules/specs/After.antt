-- The board after a move (document 02, order 9; its counters, order 12), rule by rule. A move is a number of document 01; each rule holds for any move, legal
-- or not.
-- Assumes nothing.
use Rattle.std.specs.Prelude.{Bool, cond, not, ◌&&◌, ◌||◌, List, ℕ, ◌+◌, ◌-◌, ◌/◌, ◌%◌, eqb, leb, ltb, set}
use Rattle.answer.specs.Answer.{out_of_range, bad_list}
use Rattle.square.specs.Piece.{kind_of, pawn, king, man_on}
use Rattle.square.specs.Square.{square_of}
use Rattle.castle_rights.specs.CastleRights.{castles_at, removed}
use Rattle.board_builder.specs.declared.BoardBuilder.{BoardBuilder}
use Rattle.board_builder.specs.declared.Stepped.{Stepped}
use Rattle.board_builder.specs.BoardBuilder.{board, with_counters, board_of, numbers, last_count, in_range}
use Rattle.board_builder.specs.Steps.{stepped}
use Rattle.chess_move.specs.Number.{last_move, source_of, dest_of, promotion_of}

abbrev pub rank : ℕ → ℕ
rank square = square / 8

abbrev pub file : ℕ → ℕ
file square = square % 8

-- what is added to a kind to make a man of the same colour as this one, and the pawn of the other colour
unfoldable pub colour_step : ℕ → ℕ
colour_step man = cond (leb man 6) 0 6

unfoldable pub enemy_pawn : ℕ → ℕ
enemy_pawn man = cond (leb man 6) (pawn + 6) pawn

-- files, or ranks, of which one is two from the other
unfoldable pub two_apart : ℕ → ℕ → Bool
two_apart a b = eqb b (a + 2) || eqb a (b + 2)

-- castling is a king going two files along its rank
unfoldable pub castles : ℕ → ℕ → ℕ → Bool
castles man source dest = eqb (kind_of man) king && (eqb (rank source) (rank dest) && two_apart (file source) (file dest))

-- that side's corner of the rank, and the square passed over
unfoldable pub corner : ℕ → ℕ → ℕ
corner source dest = square_of (rank source) (cond (ltb source dest) 7 0)

abbrev pub passed_over : ℕ → ℕ → ℕ
passed_over source dest = (source + dest) / 2

-- what stood in the corner goes to the square passed over
unfoldable pub rook_moved : List ℕ → ℕ → ℕ → ℕ → List ℕ
rook_moved squares man source dest =
    cond (castles man source dest) (set (set squares (passed_over source dest) (man_on squares (corner source dest))) (corner source dest) 0) squares

-- en passant is a pawn changing files to an empty square; the square on its old rank and new file is cleared
unfoldable pub takes_in_passing : List ℕ → ℕ → ℕ → ℕ → Bool
takes_in_passing squares man source dest = eqb (kind_of man) pawn && (not (eqb (file source) (file dest)) && eqb (man_on squares dest) 0)

unfoldable pub pawn_removed : List ℕ → ℕ → ℕ → ℕ → List ℕ
pawn_removed squares man source dest =
    cond (takes_in_passing squares man source dest) (set squares (square_of (rank source) (file dest)) 0) squares

-- the man that is set down: the one that moves, or the piece that it is promoted to, in its colour; for an empty source, nothing
unfoldable pub set_down : ℕ → ℕ → ℕ
set_down man promotion = cond (eqb man 0) 0 (cond (eqb promotion 0) man (promotion + colour_step man))

-- the source is emptied, and the man is set down last
abbrev pub man_moved : List ℕ → ℕ → ℕ → ℕ → ℕ → List ℕ
man_moved squares man source dest promotion = set (set squares source 0) dest (set_down man promotion)

abbrev pub moved_from : List ℕ → ℕ → ℕ → ℕ → ℕ → List ℕ
moved_from squares man source dest promotion =
    man_moved (pawn_removed (rook_moved squares man source dest) man source dest) man source dest promotion

unfoldable pub squares_after : List ℕ → ℕ → ℕ → ℕ → List ℕ
squares_after squares source dest promotion = moved_from squares (man_on squares source) source dest promotion

-- the rights of a colour that are lost with the man on a square: those of castle_rights.rs
abbrev pub rights_on : ℕ → ℕ → ℕ
rights_on colour square = castles_at colour (rank square) (file square)

-- rights of both sides are removed by source and by destination square
unfoldable pub rights_without : ℕ → ℕ → ℕ → ℕ
rights_without colour rights square = removed rights (rights_on colour square)

unfoldable pub rights_after : ℕ → ℕ → ℕ → ℕ → ℕ
rights_after colour rights source dest = rights_without colour (rights_without colour rights source) dest

-- the other side is to move
abbrev pub side_after : ℕ → ℕ
side_after side = 1 - side

-- a double pawn step: two ranks on one file
unfoldable pub steps_twice : ℕ → ℕ → ℕ → Bool
steps_twice man source dest = eqb (kind_of man) pawn && (eqb (file source) (file dest) && two_apart (rank source) (rank dest))

-- a man stands on the file before a square, or behind it, on the same rank
unfoldable pub stood_before : List ℕ → ℕ → ℕ → Bool
stood_before squares square man = not (eqb (file square) 0) && eqb (man_on squares (square - 1)) man

unfoldable pub stood_behind : List ℕ → ℕ → ℕ → Bool
stood_behind squares square man = not (eqb (file square) 7) && eqb (man_on squares (square + 1)) man

abbrev pub stood_beside : List ℕ → ℕ → ℕ → Bool
stood_beside squares square man = stood_before squares square man || stood_behind squares square man

-- the en passant file is set only when a double step arrives beside an enemy pawn; a double step changes no square of the files beside it
unfoldable pub file_after : List ℕ → ℕ → ℕ → ℕ → ℕ
file_after squares man source dest =
    cond (steps_twice man source dest) (cond (stood_beside squares dest (enemy_pawn man)) (file dest + 1) 0) 0

-- the 68 numbers after a move from a source to a destination, with a promotion or 0
unfoldable pub after_parts : BoardBuilder → ℕ → ℕ → ℕ → BoardBuilder
after_parts b source dest promotion =
    board
    (squares_after b.pieces source dest promotion)
    (side_after b.side_to_move)
    (rights_after 0 b.white_castle_rights source dest)
    (rights_after 1 b.black_castle_rights source dest)
    (file_after b.pieces (man_on b.pieces source) source dest)

-- "by the PGN rule": half-moves are counted from the last one with a pawn on its source or a man on its destination, and a move's number rises after
-- black's; both "stop at 9,999"
unfoldable pub restarts : List ℕ → ℕ → ℕ → Bool
restarts squares source dest = eqb (kind_of (man_on squares source)) pawn || not (eqb (man_on squares dest) 0)

unfoldable pub one_more : ℕ → ℕ
one_more n = cond (ltb n last_count) (n + 1) last_count

unfoldable pub half_after : List ℕ → ℕ → ℕ → ℕ → ℕ
half_after squares half source dest = cond (restarts squares source dest) 0 (one_more half)

unfoldable pub full_after : ℕ → ℕ → ℕ
full_after side full = cond (eqb side 0) full (one_more full)

-- the record after a move
abbrev pub board_after : BoardBuilder → ℕ → BoardBuilder
board_after b m =
    with_counters (after_parts b (source_of m) (dest_of m) (promotion_of m))
    (half_after b.pieces b.half_moves (source_of m) (dest_of m))
    (full_after b.side_to_move b.full_moves)

-- its 68 numbers, from those of a record
unfoldable pub record_after : List ℕ → ℕ → List ℕ
record_after l m = numbers (board_after (board_of l) m)

-- 5 for the record, then 6 for the move; a refused call hands its record back
unfoldable pub after_answer : BoardBuilder → ℕ → Stepped
after_answer b m = cond (in_range b) (cond (leb m last_move) (stepped 0 (board_after b m)) (stepped bad_list b)) (stepped out_of_range b)
