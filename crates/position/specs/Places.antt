-- Which earlier positions equal one, for what a ruling rests on (document 02, order 5): by number, the earliest first.
-- Assumes nothing.
use Rattle.std.specs.Prelude.{cond, List, [], ◌∷◌, ◌++◌, ℕ, ◌+◌, ◌*◌, ◌-◌, leb, length, get_or}
use Rattle.position.specs.declared.Places.{Places}
use Rattle.position.specs.Layout.{Position, position_size, position_at, positions_from}
use Rattle.position.specs.Repeats.{equal}

-- the numbers of those of a list that equal p, where the list is newest first and its newest has the number before `top`
unfoldable pub places_of : Position → ℕ → List Position → List ℕ
places_of p top [] = []
places_of p top (q ∷ qs) = places_of p (top - 1) qs ++ cond (equal q p) ((top - 1) ∷ []) []

-- how many numbers, and the first two; 0 where there is none
abbrev pub places_told : List ℕ → Places
places_told l = record { count = length l; first = get_or l 0 0; second = get_or l 1 0 }

-- position `last` lies in the part: those from `first` up to it that equal it
unfoldable pub equal_places : List ℕ → ℕ → ℕ → Places
equal_places ps first last =
    cond (leb (position_size * last + position_size) (length ps))
    (places_told (places_of (position_at ps last) last (positions_from ps first (last - first))))
    (places_told [])
