-- Castling rights, as document 01, "Port order" 1, numbers them: 1 king side, 2 queen side, 3 both, 0 none. Adding and removing are per bit.
-- Assumes nothing.
use Rattle.std.specs.Prelude.{ℕ, ◌+◌, ◌*◌, ◌-◌, ◌/◌, ◌%◌, max, cond, ◌&&◌, List, [], ◌∷◌, ◌++◌, ltb, eqb}
use Rattle.answer.specs.declared.Answer.{Answer}
use Rattle.answer.specs.Answer.{accepted, refused, in_range_or5, out_of_range}

-- the two bits, and the number that they make
abbrev pub king_bit : ℕ → ℕ
king_bit r = r % 2

abbrev pub queen_bit : ℕ → ℕ
queen_bit r = r / 2

abbrev pub rights : ℕ → ℕ → ℕ
rights k q = k + 2 * q

abbrev pub from_index : ℕ → Answer
from_index i = in_range_or5 (ltb i 4) i

abbrev pub has_king : ℕ → Answer
has_king r = in_range_or5 (ltb r 4) (king_bit r)

abbrev pub has_queen : ℕ → Answer
has_queen r = in_range_or5 (ltb r 4) (queen_bit r)

abbrev pub added : ℕ → ℕ → ℕ
added a b = rights (max (king_bit a) (king_bit b)) (max (queen_bit a) (queen_bit b))

abbrev pub removed : ℕ → ℕ → ℕ
removed a b = rights (king_bit a - king_bit b) (queen_bit a - queen_bit b)

abbrev pub add_rights : ℕ → ℕ → Answer
add_rights a b = in_range_or5 (ltb a 4 && ltb b 4) (added a b)

abbrev pub remove_rights : ℕ → ℕ → Answer
remove_rights a b = in_range_or5 (ltb a 4 && ltb b 4) (removed a b)

-- 2, 3, 1 at files a, e, h of the colour's own back rank, 0 elsewhere
abbrev pub by_file : ℕ → ℕ
by_file file = cond (eqb file 0) 2 (cond (eqb file 4) 3 (cond (eqb file 7) 1 0))

abbrev pub castles_at : ℕ → ℕ → ℕ → ℕ
castles_at colour rank file = cond (eqb rank (colour * 7)) (by_file file) 0

abbrev pub square_rights : ℕ → ℕ → Answer
square_rights colour square = in_range_or5 (ltb colour 2 && ltb square 64) (castles_at colour (square / 8) (square % 8))

-- a rook's square: file a is 2, file h is 1, any other file 5
abbrev pub rook_rights : ℕ → Answer
rook_rights square =
    cond (ltb square 64) (cond (eqb (square % 8) 0) (accepted 2) (cond (eqb (square % 8) 7) (accepted 1) (refused out_of_range))) (refused out_of_range)

-- the letters k and q of rights that hold, king side first
unfoldable pub letters_of : ℕ → ℕ → ℕ → List ℕ
letters_of k q r = cond (eqb (king_bit r) 1) (k ∷ []) [] ++ cond (eqb (queen_bit r) 1) (q ∷ []) []

-- a colour's letters: upper case for white, lower case for black
unfoldable pub letters_text : ℕ → ℕ → List ℕ
letters_text r colour = cond (eqb colour 0) (letters_of 75 81 r) (letters_of 107 113 r)

-- what a writer of letters checks before 7
abbrev pub letters_check : ℕ → ℕ → ℕ
letters_check r colour = cond (ltb r 4 && ltb colour 2) 0 out_of_range
