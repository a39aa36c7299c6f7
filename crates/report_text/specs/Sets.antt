-- "Men are counted on 64-bit sets of squares, one per kind, and shown equal to counting squares" (document 02, order 14): the set of a kind has a bit for
-- each square, the first square's the lowest, and its men are the bits that are set.
-- Assumes nothing.
use Rattle.std.specs.Prelude.{ℕ, ◌+◌, ◌*◌, ◌/◌, ◌%◌, ◌^◌, ◌<◌, ◌≡◌, List, [], ◌∷◌, eqb, length, get_or}
use Rattle.std.specs.Int.Count.{ones}
use Rattle.report_text.specs.Report.{one, squares_with}

unfoldable pub set_of : ℕ → List ℕ → ℕ
set_of code [] = 0
set_of code (x ∷ xs) = one (eqb x code) + 2 * set_of code xs

-- square i's bit is set exactly if the square has the code
abbrev pub BitsAreTheSquares : Type 0
BitsAreTheSquares = (code : ℕ) (xs : List ℕ) (i : ℕ) → i < length xs → set_of code xs / 2 ^ i % 2 ≡ one (eqb (get_or xs i 0) code)

-- the count of ones is the count of squares
abbrev pub OnesAreTheSquares : Type 0
OnesAreTheSquares = (code : ℕ) (xs : List ℕ) → ones (set_of code xs) ≡ squares_with code xs

-- 64 squares have a set of 64 bits
abbrev pub SetsFit : Type 0
SetsFit = (code : ℕ) (xs : List ℕ) → set_of code xs < 2 ^ length xs
