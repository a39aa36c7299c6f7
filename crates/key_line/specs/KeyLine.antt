-- What the program keys writes for one line of its input: the key and a newline, or `! N OFFSET` and a newline with the number of the refusal and the
-- offset of what is wrong.
-- Assumes nothing.
use Rattle.std.specs.Prelude.{ℕ, cond, List, [], ◌∷◌, ◌++◌, eqb}
use Rattle.decimal.specs.Decimal.{decimal}
use Rattle.fen_text.specs.Read.{read_fen}
use Rattle.fen_text.specs.Promises.{key_of}

abbrev pub newline : List ℕ
newline = 10 ∷ []

abbrev pub refusal_line : ℕ → ℕ → List ℕ
refusal_line number offset = (33 ∷ 32 ∷ []) ++ (decimal number ++ ((32 ∷ []) ++ (decimal offset ++ newline)))

unfoldable pub key_line : List ℕ → List ℕ
key_line s = cond (eqb (read_fen s).number 0) (key_of s ++ newline) (refusal_line (read_fen s).number (read_fen s).offset)
