-- The places of files, ranks and squares in a text: 1 to 8, 1 to 8, 1 to 64. 0 means none throughout.
-- Assumes nothing.
use Rattle.std.specs.Prelude.{ℕ, ◌+◌, ◌*◌, ◌-◌, ◌/◌, ◌%◌, Bool, cond, not, leb, eqb}

-- a number that is there
abbrev pub given : ℕ → Bool
given n = not (eqb n 0)

-- 1 to 8 for the eight bytes after `base`, otherwise 0
unfoldable pub place_from : ℕ → ℕ → ℕ
place_from base b = cond (leb (b - base) 8) (b - base) 0

-- a to h
abbrev pub file_place : ℕ → ℕ
file_place b = place_from 96 b

-- 1 to 8
abbrev pub rank_place : ℕ → ℕ
rank_place b = place_from 48 b

-- from the places of a file and a rank: the square's number plus 1; 0 if either is none
unfoldable pub square_at : ℕ → ℕ → ℕ
square_at file rank = cond (eqb file 0) 0 (cond (eqb rank 0) 0 ((rank - 1) * 8 + file))

-- the two bytes of a square
abbrev pub file_byte : ℕ → ℕ
file_byte square = 97 + square % 8

abbrev pub rank_byte : ℕ → ℕ
rank_byte square = 49 + square / 8
