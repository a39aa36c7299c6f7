-- How the quick walk of the reader sets the marks of a placement down: sixteen places a rank, from the eighth down, its eight files and eight that a slash
-- passes over. For its inner functions; the public contract does not speak of this.
-- Assumes nothing.
use Rattle.std.specs.Prelude.{ℕ, ◌+◌, ◌*◌, ◌-◌, ◌/◌, ◌%◌, ◌≤◌, ◌<◌, ◌≡◌, true, List, length, take, drop, get_or}
use Rattle.answer.specs.Numbers.{all_at_most}
use Rattle.fen_text.specs.Token.{place_of}
use Rattle.fen_text.specs.Placement.{Placement, start, place_all}
use Rattle.fen_reader.specs.CodeMarks.{slash_mark}
use Rattle.fen_reader.specs.CodeWalk.{found_from}
use Rattle.fen_reader.specs.declared.places.Stopped.{Stopped}

-- the place of a file of a rank
abbrev pub place_at : ℕ → ℕ → ℕ
place_at rank file = (7 - rank) * 16 + file

-- the pieces are what stands in the files
pub record Files (places pieces : List ℕ) : Type 0 where
  pub long : length pieces ≡ 64
  pub each : (r f : ℕ) → r < 8 → f < 8 → get_or pieces (r * 8 + f) 0 ≡ get_or places (place_at r f) 0 / 16

-- the same of one rank; the ranks below it are left as they were
pub record RankSet (places old pieces : List ℕ) (rank : ℕ) : Type 0 where
  pub long : length pieces ≡ 64
  pub here : (f : ℕ) → f < 8 → get_or pieces (rank * 8 + f) 0 ≡ get_or places (place_at rank f) 0 / 16
  pub below : (k : ℕ) → k < rank * 8 → get_or pieces k 0 ≡ get_or old k 0

-- nothing is wrong below a place: each file has a piece's code or none, and a slash stands behind the files of each rank
pub record Right (places : List ℕ) (at : ℕ) : Type 0 where
  pub codes : (k r f : ℕ) → k ≡ r * 16 + f → f < 8 → k < at → get_or places k 0 / 16 ≤ 12
  pub slashes : (k r : ℕ) → k ≡ r * 16 + 8 → k < at → get_or places k 0 ≡ slash_mark

-- a walk that set down the places below `at` stands where the placement rule stands: so many ranks further down, at this column
pub record Stands (p : Placement) (at : ℕ) (places : List ℕ) : Type 0 where
  pub gone : ℕ
  pub column : ℕ
  pub place : at ≡ gone * 16 + column
  pub narrow : column ≤ 8
  pub rank : p.rank + gone ≡ 7
  pub file : p.file ≡ column % 8
  pub good : p.good ≡ true
  pub pieces : Files places p.pieces

-- the same after the first i bytes of a text, of which none is a space
pub record Walks (s : List ℕ) (i at : ℕ) (places : List ℕ) : Type 0 where
  pub stands : Stands (place_all start (take i s)) at places
  pub spaceless : place_of 32 s ≡ i + place_of 32 (drop i s)

-- what the places tell after the walk
pub record Laid (s places : List ℕ) (r : Stopped) : Type 0 where
  pub long : length places ≡ 128
  pub told : r.at ≤ 120 → Right places r.at → Walks s r.end r.at places

-- a slash stands behind each rank but the last
abbrev pub Slashes : List ℕ → Type 0
Slashes places = (r : ℕ) → r < 7 → get_or places (r * 16 + 8) 0 ≡ slash_mark

-- the places tell the placement of a text: its last rank is full, nothing is wrong, and the first token ends where the walk did
pub record Tells (s : List ℕ) (at end : ℕ) (places pieces : List ℕ) : Type 0 where
  pub last : at ≡ 120
  pub slashes : Slashes places
  pub codes : all_at_most 12 pieces ≡ true
  pub ends : found_from 32 s end ≡ end
