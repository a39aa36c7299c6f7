-- How the reader walks any placement, byte by byte: what a mark does to the square to fill next. For its inner functions; the public
-- contract does not speak of this.
-- Assumes nothing.
use Rattle.std.specs.Prelude.{ℕ, ◌+◌, ◌/◌, ◌%◌, ◌≡◌, true, false, cond, List, Option, Some, None, eqb, ltb, take, drop}
use Rattle.fen_text.specs.Token.{place_of}
use Rattle.fen_text.specs.Placement.{start, place_all}
use Rattle.fen_text.specs.Read.{rights_of}
use Rattle.fen_reader.specs.CodeMarks.{slash_mark, no_mark}
use Rattle.fen_reader.specs.declared.placement.Walked.{Walked}
use Rattle.fen_reader.specs.declared.token.Sides.{Sides}

-- a piece is set down, or what stands there stays
abbrev pub piece_after : ℕ → ℕ → ℕ
piece_after mark old = cond (ltb mark 16) old (cond (ltb mark 208) (mark / 16) old)

abbrev pub step_of : ℕ → ℕ
step_of mark = cond (eqb mark no_mark) 0 (mark % 16)

abbrev pub file_next : ℕ → ℕ → ℕ
file_next file mark = cond (eqb mark slash_mark) 0 ((file + step_of mark) % 8)

abbrev pub rank_next : ℕ → ℕ → ℕ
rank_next rank mark = cond (eqb mark slash_mark) ((rank + 7) % 8) rank

-- the pieces that a token places, or none exactly if it is not a placement
abbrev pub PlacedBy : List ℕ → Option (List ℕ) → Type 0
PlacedBy token None = (place_all start token).good ≡ false
PlacedBy token (Some pieces) = ((place_all start token).good ≡ true) × ((place_all start token).pieces ≡ pieces)

-- the first token of a text: it ends at the first space or with the text
pub record PlacementWalk (s : List ℕ) (r : Walked) : Type 0 where
  pub place : r.end ≡ place_of 32 s
  pub pieces : PlacedBy (take r.end s) r.pieces

-- the place of the first b from a place on, or the text's end
abbrev pub found_from : ℕ → List ℕ → ℕ → ℕ
found_from b s from = from + place_of b (drop from s)

-- the first token of a text ends there, and is not a placement
pub record NoPlacement (s : List ℕ) (end : ℕ) : Type 0 where
  pub place : end ≡ place_of 32 s
  pub bad : (place_all start (take end s)).good ≡ false

-- both sides' rights
abbrev pub sides_of : List ℕ → Sides
sides_of t = record { white = rights_of 75 81 t; black = rights_of 107 113 t }
