-- What this crate promises about squares, each as a statement that can be read by itself.
-- Assumes nothing.
use Rattle.std.specs.Prelude.{ℕ, ◌<◌, ◌≡◌, Result, Ok}
use Rattle.square.specs.declared.PairError.{PairError}
use Rattle.square.specs.Square.{read_square, square_text, pair_told}

-- a square's text reads back to it
abbrev pub SquareReadsBack : Type 0
SquareReadsBack = (square : ℕ) → square < 64 → read_square (square_text square) ≡ Ok square

-- order 3: number, value and offset tell the four cases apart, wherever the pair stands
abbrev pub ToldApart : Type 0
ToldApart = (start long : ℕ) (p q : Result ℕ PairError) → pair_told start long p ≡ pair_told start long q → p ≡ q
