-- Lines (document 02, order 7): a newline byte ends a line and belongs to none; an unended last line counts if it has a byte in it.
-- Assumes nothing.
use Rattle.std.specs.Prelude.{ℕ, ◌+◌, Bool, true, false, List, [], ◌∷◌, ◌++◌, eqb, drop}
use Rattle.fen_text.specs.Token.{joined, place_of}

abbrev pub line_feed : ℕ
line_feed = 10

-- the lines of a text: a newline ends an empty one before those that follow it, any other byte joins the one that it stands before
unfoldable pub lines : List ℕ → List (List ℕ)
unfolding joined
lines [] = []
lines (x ∷ xs) = joined (eqb x line_feed) x (lines xs)

-- where the line that starts at a place ends: at its newline, or with the text
abbrev pub line_end : List ℕ → ℕ → ℕ
line_end s from = from + place_of line_feed (drop from s)

-- a byte put before the first line that is ended, if there is one
unfoldable pub onto_ended : ℕ → List (List ℕ) → List (List ℕ)
onto_ended b [] = []
onto_ended b (l ∷ ls) = (b ∷ l) ∷ ls

unfoldable pub ended_lines_by : Bool → ℕ → List (List ℕ) → List (List ℕ)
unfolding onto_ended
ended_lines_by true b ls = [] ∷ ls
ended_lines_by false b ls = onto_ended b ls

-- those of them that a newline ends
unfoldable pub ended_lines : List ℕ → List (List ℕ)
unfolding ended_lines_by
ended_lines [] = []
ended_lines (x ∷ xs) = ended_lines_by (eqb x line_feed) x (ended_lines xs)

-- what is said about each line, one after the other
unfoldable pub over_lines : (List ℕ → List ℕ) → List (List ℕ) → List ℕ
over_lines f [] = []
over_lines f (l ∷ ls) = f l ++ over_lines f ls
