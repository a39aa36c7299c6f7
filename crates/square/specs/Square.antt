-- Squares and colours, as document 01, "Port order" 1, numbers them: a square is a rank of 0 to 7 times 8 plus a file of 0 to 7, A1 = 0.
-- Assumes nothing.
use Rattle.std.specs.Prelude.{ℕ, ◌+◌, ◌*◌, ◌-◌, ◌/◌, ◌%◌, cond, ◌&&◌, List, [], ◌∷◌, ltb, Result, Ok, Err}
use Rattle.answer.specs.declared.Answer.{Answer}
use Rattle.answer.specs.declared.Placed.{Placed}
use Rattle.answer.specs.Numbers.{between}
use Rattle.square.specs.declared.PairError.{PairError}
use Rattle.square.specs.declared.PairError.TheVariants.{BadFile, BadRank, Missing}
use Rattle.answer.specs.Answer.{read_as, fault_at, in_range_or5, out_of_range, invalid_square, invalid_uci_move}

abbrev pub square_of : ℕ → ℕ → ℕ
square_of rank file = rank * 8 + file

abbrev pub make_square : ℕ → ℕ → Answer
make_square rank file = in_range_or5 (ltb rank 8 && ltb file 8) (square_of rank file)

abbrev pub rank_of : ℕ → Answer
rank_of square = in_range_or5 (ltb square 64) (square / 8)

abbrev pub file_of : ℕ → Answer
file_of square = in_range_or5 (ltb square 64) (square % 8)

-- white's back rank is the first, black's the eighth
abbrev pub back_rank : ℕ → Answer
back_rank colour = in_range_or5 (ltb colour 2) (colour * 7)

-- the square that a letter a to h and a digit 1 to 8 name; otherwise the file is wrong, or only the rank
abbrev pub square_named : ℕ → ℕ → Result ℕ PairError
square_named a b = cond (between 97 104 a) (cond (between 49 56 b) (Ok (square_of (b - 49) (a - 97))) (Err BadRank)) (Err BadFile)

-- the square that the first two bytes of a text name (`Square::from_str`)
unfoldable pub read_square : List ℕ → Result ℕ PairError
read_square [] = Err Missing
read_square (a ∷ []) = Err Missing
read_square (a ∷ b ∷ rest) = square_named a b

-- order 3: what is said about a pair that starts at a place in a text of a length: the faulty byte's place with 2, the text's length with 3 where the pair
-- is not there
unfoldable pub pair_told : ℕ → ℕ → Result ℕ PairError → Placed
pair_told start long (Ok s) = read_as s
pair_told start long (Err BadFile) = fault_at invalid_square start
pair_told start long (Err BadRank) = fault_at invalid_square (start + 1)
pair_told start long (Err Missing) = fault_at invalid_uci_move long

-- a square's text: its file's letter, its rank's digit
abbrev pub square_text : ℕ → List ℕ
square_text square = (97 + square % 8) ∷ (49 + square / 8) ∷ []

-- what a writer of squares checks before 7
abbrev pub square_check : ℕ → ℕ
square_check square = cond (ltb square 64) 0 out_of_range
