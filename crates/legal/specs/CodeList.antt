-- How the list is gathered: how many numbers are asked; each move to its place in a room of 255, and their number, 256 for more than 255.
-- Assumes nothing.
use Rattle.std.specs.Prelude.{ℕ, zero, suc, ◌+◌, ◌≤◌, ◌<◌, ◌≡◌, Bool, false, cond, not, ◌&&◌, ◌||◌, List, [], ◌∷◌, eqb, leb, ltb, length, set, get_or}
use Rattle.square.specs.Piece.{pawn, king, man_on}
use Rattle.move_rules.specs.After.{takes_in_passing}
use Rattle.move_laws.specs.Apart.{file_or_rank, diagonal}
use Rattle.move_laws.specs.Attack.{man_of, of_side, in_check}

-- the first square of the rank from which a side's pawns promote, and whether one of them is there: on the first n squares of it, and on all eight
abbrev pub seventh_rank : ℕ → ℕ
seventh_rank side = cond (eqb side 0) 48 8

unfoldable pub pawn_from : List ℕ → ℕ → ℕ → ℕ → Bool
pawn_from squares man first zero = false
pawn_from squares man first (suc n) = eqb (man_on squares (first + n)) man || pawn_from squares man first n

unfoldable pub may_promote : List ℕ → ℕ → Bool
may_promote squares side = pawn_from squares (man_of side pawn) (seventh_rank side) 8

-- a step from a square to a higher one, or past the last, that passes over no man of a side; and a table of them, from a square on
pub record Skips (squares : List ℕ) (side s step : ℕ) : Type 0 where
  pub some : 1 ≤ step
  pub within : s + step ≤ 64
  pub none : (x : ℕ) → s < x → x < s + step → of_side side (man_on squares x) ≡ false

pub record SkipsFrom (squares : List ℕ) (side first : ℕ) (steps : List ℕ) : Type 0 where
  pub long : length steps ≡ 64
  pub each : (s : ℕ) → first ≤ s → s < 64 → Skips squares side s (get_or steps s 0)

-- two squares of a file, a rank or a diagonal
unfoldable pub on_line : ℕ → ℕ → Bool
on_line s t = file_or_rank s t || diagonal s t

-- the highest of the first n squares where a man stands, 64 for none
unfoldable pub last_of : List ℕ → ℕ → ℕ → ℕ
last_of squares man zero = 64
last_of squares man (suc n) = cond (eqb (man_on squares n) man) n (last_of squares man n)

-- a side is not in check, and has a king nowhere else
pub record Calm (squares : List ℕ) (side k : ℕ) : Type 0 where
  pub unchecked : in_check squares side ≡ false
  pub only : (x : ℕ) → x < 64 → man_on squares x ≡ man_of side king → x ≡ k

-- where that is known, of a king's square under 64: a move by another man, from no line with the king, not in passing, which need not be tried out
unfoldable pub keeps_safe : List ℕ → ℕ → ℕ → ℕ → Bool
keeps_safe squares k s t = ltb k 64 && (not (eqb s k) && (not (on_line s k) && not (takes_in_passing squares (man_on squares s) s t)))

unfoldable pub counted_to : ℕ → ℕ
counted_to count = cond (leb 255 count) 256 (count + 1)

unfoldable pub put_at : List ℕ → ℕ → ℕ → List ℕ
put_at room count m = cond (leb 255 count) room (set room count m)

unfoldable pub count_from : ℕ → List ℕ → ℕ
count_from count [] = count
count_from count (x ∷ xs) = count_from (counted_to count) xs

unfoldable pub filled_from : List ℕ → ℕ → List ℕ → List ℕ
filled_from room count [] = room
filled_from room count (x ∷ xs) = filled_from (put_at room count x) (counted_to count) xs
