-- Piece codes and their FEN letters: 0 empty; 1 to 6 white pawn, knight, bishop, rook, queen, king; 7 to 12 black (document 01, "Numbers of
-- the record"; PGN standard 16.1.3.1).
-- Assumes nothing.
use Rattle.std.specs.Prelude.{ℕ, ◌-◌, cond, List, eqb, leb, get_or}

-- P N B R Q K are 1 to 6, p n b r q k are 7 to 12, any other byte is 0
unfoldable pub piece_of : ℕ → ℕ
piece_of b =
    cond (eqb b 80) 1
    (cond (eqb b 78) 2
    (cond (eqb b 66) 3
    (cond (eqb b 82) 4
    (cond (eqb b 81) 5
    (cond (eqb b 75) 6
    (cond (eqb b 112) 7
    (cond (eqb b 110) 8
    (cond (eqb b 98) 9
    (cond (eqb b 114) 10
    (cond (eqb b 113) 11
    (cond (eqb b 107) 12 0)))))))))))

-- the letter of a piece code of 1 to 12, otherwise 0
unfoldable pub letter_of : ℕ → ℕ
letter_of p =
    cond (eqb p 1) 80
    (cond (eqb p 2) 78
    (cond (eqb p 3) 66
    (cond (eqb p 4) 82
    (cond (eqb p 5) 81
    (cond (eqb p 6) 75
    (cond (eqb p 7) 112
    (cond (eqb p 8) 110
    (cond (eqb p 9) 98
    (cond (eqb p 10) 114
    (cond (eqb p 11) 113
    (cond (eqb p 12) 107 0)))))))))))

-- the kind of man, 1 to 6, of a code 0 to 12, whatever its colour; 0 where the square is empty
unfoldable pub kind_of : ℕ → ℕ
kind_of code = cond (leb code 6) code (code - 6)

-- the kinds of men that have rules of their own
abbrev pub pawn : ℕ
pawn = 1

abbrev pub king : ℕ
king = 6

-- what stands on a square of a board, 0 for nothing
abbrev pub man_on : List ℕ → ℕ → ℕ
man_on squares square = get_or squares square 0
