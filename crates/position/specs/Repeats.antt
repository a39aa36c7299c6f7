-- Repeated positions (document 01, "Draws and endings"): equal is the same record and the same list in order. "Equality of positions for repetition
-- ignores both" counters (document 02, order 12).
-- Assumes nothing.
use Rattle.std.specs.Prelude.{Bool, cond, ◌&&◌, List, [], ◌∷◌, ℕ, ◌+◌, ◌*◌, ◌-◌, leb, length}
use Rattle.answer.specs.Numbers.{same}
use Rattle.position.specs.Layout.{Position, position_size, position_at, positions_from}

unfoldable pub equal : Position → Position → Bool
equal p q = same p.board q.board && same p.moves q.moves

-- how many positions of a list equal p
unfoldable pub times : Position → List Position → ℕ
times p [] = 0
times p (q ∷ qs) = cond (equal q p) 1 0 + times p qs

-- position `last` lies in the part, and two of those from `first` up to it equal it
unfoldable pub equals_two_earlier : List ℕ → ℕ → ℕ → Bool
equals_two_earlier ps first last =
    leb (position_size * last + position_size) (length ps) && leb 2 (times (position_at ps last) (positions_from ps first (last - first)))
