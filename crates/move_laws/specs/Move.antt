-- How the men move (FIDE Laws, 3.1 to 3.8), but for the safety of the own king: a side's man from a square to another.
-- Assumes nothing.
use Rattle.std.specs.Prelude.{ℕ, ◌+◌, ◌*◌, Bool, cond, not, ◌&&◌, ◌||◌, List, eqb, leb, ltb}
use Rattle.square.specs.Piece.{kind_of, pawn, king, man_on}
use Rattle.square.specs.Square.{square_of}
use Rattle.castle_rights.specs.CastleRights.{king_bit, queen_bit}
use Rattle.move_rules.specs.After.{rank, file, two_apart, corner, passed_over}
use Rattle.move_laws.specs.Apart.{clear}
use Rattle.move_laws.specs.Attack.{knight_kind, rook_kind, queen_kind, other, man_of, of_side, ahead, pawn_attacks, kind_attacks, attacked}

-- 3.1.1 "If a piece moves to a square occupied by an opponent's piece the latter is captured"; 1.4.1: the king is not
unfoldable pub may_take : ℕ → ℕ → Bool
may_take side man = of_side (other side) man && not (eqb (kind_of man) king)

-- 3.1 "not .. to a square occupied by a piece of the same colour"
unfoldable pub may_arrive : ℕ → ℕ → Bool
may_arrive side man = eqb man 0 || may_take side man

-- 3.7.1 "forward to the square immediately in front of it on the same file, provided that this square is unoccupied"
unfoldable pub pawn_steps : List ℕ → ℕ → ℕ → ℕ → Bool
pawn_steps squares side s t = ahead side s t 1 && (eqb (file s) (file t) && eqb (man_on squares t) 0)

-- 3.7.2 "on its first move .. two squares along the same file, provided that both squares are unoccupied": from the side's second rank
abbrev pub second_rank : ℕ → ℕ
second_rank side = cond (eqb side 0) 1 6

unfoldable pub pawn_steps_twice : List ℕ → ℕ → ℕ → ℕ → Bool
pawn_steps_twice squares side s t =
    ahead side s t 2
    && (eqb (file s) (file t) && (eqb (rank s) (second_rank side) && (eqb (man_on squares t) 0 && eqb (man_on squares (passed_over s t)) 0)))

-- 3.7.3 "a square occupied by an opponent's piece diagonally in front of it on an adjacent file, capturing that piece"
unfoldable pub pawn_captures : List ℕ → ℕ → ℕ → ℕ → Bool
pawn_captures squares side s t = pawn_attacks side s t && may_take side (man_on squares t)

-- 3.7.4.1 "A pawn occupying a square on the same rank as and on an adjacent file to an opponent's pawn which has just advanced two squares in one move
-- .. may capture this opponent's pawn as though the latter had been moved only one square"; 3.7.4.2 "only legal on the move following this advance": the
-- record's file says so
abbrev pub passing_rank : ℕ → ℕ
passing_rank side = cond (eqb side 0) 4 3

unfoldable pub pawn_passes : List ℕ → ℕ → ℕ → ℕ → ℕ → Bool
pawn_passes squares side marked s t =
    pawn_attacks side s t
    && (eqb marked (file t + 1)
    && (eqb (rank s) (passing_rank side)
    && (eqb (man_on squares t) 0 && eqb (man_on squares (square_of (rank s) (file t))) (man_of (other side) pawn))))

unfoldable pub pawn_moves : List ℕ → ℕ → ℕ → ℕ → ℕ → Bool
pawn_moves squares side marked s t =
    pawn_steps squares side s t || (pawn_steps_twice squares side s t || (pawn_captures squares side s t || pawn_passes squares side marked s t))

-- 3.8.2 castling, "two squares .. towards the rook" on "the player's first rank": the king at home and a rook of its colour in the corner; 3.8.2.1 by the
-- rights; 3.8.2.2 not "if there is any piece between the king and the rook", nor "if the square on which the king stands, or the square which it must cross, or
-- the square which it is to occupy, is attacked"
abbrev pub home : ℕ → ℕ
home side = 4 + 56 * side

unfoldable pub right_held : ℕ → ℕ → ℕ → Bool
right_held rights s t = eqb (cond (ltb s t) (king_bit rights) (queen_bit rights)) 1

unfoldable pub way_attacked : List ℕ → ℕ → ℕ → ℕ → Bool
way_attacked squares side s t =
    attacked squares (other side) s || (attacked squares (other side) (passed_over s t) || attacked squares (other side) t)

unfoldable pub king_castles : List ℕ → ℕ → ℕ → ℕ → ℕ → Bool
king_castles squares side rights s t =
    eqb s (home side)
    && (two_apart s t
    && (right_held rights s t
    && (eqb (man_on squares (corner s t)) (man_of side rook_kind) && (clear squares s (corner s t) && not (way_attacked squares side s t)))))

-- 3.7.5 "When a player .. plays a pawn to the rank furthest from its starting position, he must exchange that pawn .. for a new queen, rook, bishop or
-- knight"; no other move promotes
abbrev pub last_rank : ℕ → ℕ
last_rank side = cond (eqb side 0) 7 0

unfoldable pub promotes : ℕ → ℕ → ℕ → ℕ → Bool
promotes side kind t promotion =
    cond (eqb kind pawn && eqb (rank t) (last_rank side)) (leb knight_kind promotion && leb promotion queen_kind) (eqb promotion 0)

-- how a man that is no pawn moves: to what it attacks
unfoldable pub piece_moves : List ℕ → ℕ → ℕ → ℕ → ℕ → Bool
piece_moves squares side kind s t = may_arrive side (man_on squares t) && kind_attacks squares side kind s t

-- a side's man of a kind, with the rights of the side and the record's en passant number
unfoldable pub kind_moves : List ℕ → ℕ → ℕ → ℕ → ℕ → ℕ → ℕ → Bool
kind_moves squares side rights marked kind s t =
    cond (eqb kind pawn) (pawn_moves squares side marked s t)
    (cond (eqb kind king) (piece_moves squares side kind s t || king_castles squares side rights s t) (piece_moves squares side kind s t))
