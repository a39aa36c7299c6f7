-- What each man attacks, and check (FIDE Laws, 3.1.2, 3.2 to 3.7, 3.8.1, 3.9.1), over the 64 squares of a record.
-- Assumes nothing.
use Rattle.std.specs.Prelude.{ℕ, zero, suc, ◌+◌, ◌*◌, ◌-◌, Bool, false, cond, ◌&&◌, ◌||◌, List, eqb, leb}
use Rattle.square.specs.Piece.{kind_of, pawn, king, man_on}
use Rattle.move_rules.specs.After.{rank}
use Rattle.move_laws.specs.Apart.{files_apart, file_or_rank, diagonal, knights_move, adjoining, clear}

abbrev pub knight_kind : ℕ
knight_kind = 2

abbrev pub bishop_kind : ℕ
bishop_kind = 3

abbrev pub rook_kind : ℕ
rook_kind = 4

abbrev pub queen_kind : ℕ
queen_kind = 5

abbrev pub other : ℕ → ℕ
other side = 1 - side

-- a side's man of a kind: 1 to 6 are white's, 7 to 12 are black's
abbrev pub man_of : ℕ → ℕ → ℕ
man_of side kind = kind + 6 * side

unfoldable pub of_side : ℕ → ℕ → Bool
of_side side man = leb (man_of side pawn) man && leb man (man_of side king)

-- the rank of a square is so many in front of that of another, as a side looks
unfoldable pub ahead : ℕ → ℕ → ℕ → ℕ → Bool
ahead side s t n = cond (eqb side 0) (eqb (rank t) (rank s + n)) (eqb (rank s) (rank t + n))

-- 3.7.3 "diagonally in front of it on an adjacent file"
unfoldable pub pawn_attacks : ℕ → ℕ → ℕ → Bool
pawn_attacks side s t = ahead side s t 1 && eqb (files_apart s t) 1

-- 3.2 the bishop, 3.3 the rook, 3.4 the queen: "along the file, the rank or a diagonal", 3.5 not over any intervening pieces
unfoldable pub bishop_attacks : List ℕ → ℕ → ℕ → Bool
bishop_attacks squares s t = diagonal s t && clear squares s t

unfoldable pub rook_attacks : List ℕ → ℕ → ℕ → Bool
rook_attacks squares s t = file_or_rank s t && clear squares s t

unfoldable pub queen_attacks : List ℕ → ℕ → ℕ → Bool
queen_attacks squares s t = rook_attacks squares s t || bishop_attacks squares s t

-- 3.2 to 3.8: what a side's man of a kind on a square attacks
unfoldable pub kind_attacks : List ℕ → ℕ → ℕ → ℕ → ℕ → Bool
kind_attacks squares side kind s t =
    cond (eqb kind pawn) (pawn_attacks side s t)
    (cond (eqb kind knight_kind) (knights_move s t)
    (cond (eqb kind bishop_kind) (bishop_attacks squares s t)
    (cond (eqb kind rook_kind) (rook_attacks squares s t)
    (cond (eqb kind queen_kind) (queen_attacks squares s t)
    (cond (eqb kind king) (adjoining s t) false)))))

-- a man of a side stands on a square and attacks another
unfoldable pub attacks : List ℕ → ℕ → ℕ → ℕ → Bool
attacks squares side s t = of_side side (man_on squares s) && kind_attacks squares side (kind_of (man_on squares s)) s t

-- one of the men of a side on the first n squares attacks a square
unfoldable pub attacked_below : List ℕ → ℕ → ℕ → ℕ → Bool
attacked_below squares side t zero = false
attacked_below squares side t (suc s) = attacks squares side s t || attacked_below squares side t s

unfoldable pub attacked : List ℕ → ℕ → ℕ → Bool
attacked squares side t = attacked_below squares side t 64

-- 3.9.1 "in check if it is attacked by one or more of the opponent's pieces": any king of a side on the first n squares; a side without a king is not
unfoldable pub king_attacked : List ℕ → ℕ → ℕ → Bool
king_attacked squares side s = eqb (man_on squares s) (man_of side king) && attacked squares (other side) s

unfoldable pub in_check_below : List ℕ → ℕ → ℕ → Bool
in_check_below squares side zero = false
in_check_below squares side (suc s) = king_attacked squares side s || in_check_below squares side s

unfoldable pub in_check : List ℕ → ℕ → Bool
in_check squares side = in_check_below squares side 64
