-- The actions as a roll's text has them: the number of the action at the front of a text and how many bytes it takes there, by its first four bytes. Code 2
-- is a move's, whose number follows in one to three groups of seven bits; a byte that is not there counts as 0.
-- Assumes nothing.
use Rattle.std.specs.Prelude.{ℕ, zero, suc, ◌+◌, ◌*◌, ◌%◌, cond, List, [], ◌∷◌, eqb, ltb, drop, Option, Some, None}
use Rattle.answer.specs.Numbers.{number_at}

unfoldable pub entry_size : List ℕ → ℕ
entry_size l = cond (eqb (number_at l 0) 2) (cond (ltb (number_at l 1) 128) 2 (cond (ltb (number_at l 2) 128) 3 4)) 1

-- the move of one, two and three groups
abbrev pub two_groups : ℕ → ℕ → ℕ
two_groups low middle = low % 128 + 128 * middle

abbrev pub three_groups : ℕ → ℕ → ℕ → ℕ
three_groups low middle high = low % 128 + 128 * (middle % 128 + 128 * high)

-- the code + 16 × the move
unfoldable pub entry_number : List ℕ → ℕ
entry_number l =
    cond (eqb (number_at l 0) 2)
    (cond (ltb (number_at l 1) 128) (2 + 16 * number_at l 1)
    (cond (ltb (number_at l 2) 128) (2 + 16 * two_groups (number_at l 1) (number_at l 2))
    (2 + 16 * three_groups (number_at l 1) (number_at l 2) (number_at l 3))))
    (number_at l 0)

-- how many bytes the actions at the front of two texts take if they are the same there, byte for byte
unfoldable pub same_entry : List ℕ → List ℕ → Option ℕ
same_entry l m =
    cond (eqb (number_at l 0) (number_at m 0))
    (cond (eqb (number_at l 0) 2)
    (cond (eqb (number_at l 1) (number_at m 1))
    (cond (ltb (number_at l 1) 128) (Some 2)
    (cond (eqb (number_at l 2) (number_at m 2))
    (cond (ltb (number_at l 2) 128) (Some 3)
    (cond (eqb (number_at l 3) (number_at m 3)) (Some 4) None)) None)) None) (Some 1)) None

-- for n actions from the front
unfoldable pub text_numbers : ℕ → List ℕ → List ℕ
text_numbers zero l = []
text_numbers (suc n) l = entry_number l ∷ text_numbers n (drop (entry_size l) l)
