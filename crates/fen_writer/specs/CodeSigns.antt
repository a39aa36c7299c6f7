-- What the writer's inner loop adds the run to. For its inner functions; the public contract does not speak of this.
-- Assumes nothing.
use Rattle.std.specs.Prelude.{ℕ, cond, eqb}
use Rattle.square.specs.Piece.{letter_of}

-- the letter of a piece, the digit 0 for an empty square
unfoldable pub sign_of : ℕ → ℕ
sign_of p = cond (eqb p 0) 48 (letter_of p)
