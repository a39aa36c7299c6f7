-- The loops over the places, a turn each: the slashes, the files of a rank, and the ranks.
-- Assumes nothing.
use mathlib.Core.Path.{◌≡◌}
use mathlib.Core.List.{List}
use Prim.Native.Nat.{ℕ, ◌+◌, ◌*◌, ◌/◌, ◌<◌}
use lib.ListN.{get_or}
use Rattle.fen_reader.specs.CodeMarks.{slash_mark}
use Rattle.fen_reader.specs.CodePlaces.{place_at}

-- a slash stands behind each of the first ranks
abbrev pub SlashesTo : List ℕ → ℕ → Type 0
SlashesTo places rank = (r : ℕ) → r < rank → get_or places (r * 16 + 8) 0 ≡ slash_mark

-- the files of a rank so far
abbrev pub FilesTo : List ℕ → List ℕ → ℕ → ℕ → Type 0
FilesTo places pieces rank file = (f : ℕ) → f < file → get_or pieces (rank * 8 + f) 0 ≡ get_or places (place_at rank f) 0 / 16

-- the ranks so far
abbrev pub RanksTo : List ℕ → List ℕ → ℕ → Type 0
RanksTo places pieces rank = (r f : ℕ) → r < rank → f < 8 → get_or pieces (r * 8 + f) 0 ≡ get_or places (place_at r f) 0 / 16
