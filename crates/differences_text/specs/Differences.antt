-- What differs between two games (document 02, orders 10 and 12): a line for each start number that differs, "the start squares, keyed by number, `side`,
-- `white`, `black`, `ep`", then the counters, keyed "`half` and `full` after `ep`", "then the first action that differs, keyed `action` and its index from 0".
-- Assumes nothing.
use Rattle.std.specs.Prelude.{ℕ, zero, suc, ◌+◌, ◌*◌, cond, List, [], ◌∷◌, ◌++◌, eqb, ltb, drop}
use Rattle.answer.specs.Ascii.{ascii}
use Rattle.decimal.specs.Decimal.{decimal}
use Rattle.board_builder.specs.BoardBuilder.{squares, record_size, side_at, white_rights_at, black_rights_at, file_at}
use Rattle.action.specs.Layout.{action_size}
use Rattle.roll_text.specs.Roll.{Start, code_of, kind_at, colour_at, move_number_at}

-- what a line tells: its key, the first and the second game's number
pub record Difference : Type 0 where
  pub key : List ℕ
  pub first : ℕ
  pub second : ℕ

abbrev pub difference : List ℕ → ℕ → ℕ → Difference
difference key x y = record { key = key; first = x; second = y }

-- ---- the start's numbers

-- the record's 68, then the half-move clock and the move number
abbrev pub start_counts : Start → List ℕ
start_counts st = st.half ∷ st.full ∷ []

unfoldable pub start_numbers : Start → List ℕ
start_numbers st = st.numbers ++ start_counts st

abbrev pub start_size : ℕ
start_size = record_size + 2

-- the key of number i of a start
unfoldable pub start_key : ℕ → List ℕ
start_key i =
    cond (ltb i squares) (decimal i)
    (cond (eqb i side_at) (ascii "side")
    (cond (eqb i white_rights_at) (ascii "white")
    (cond (eqb i black_rights_at) (ascii "black")
    (cond (eqb i file_at) (ascii "ep")
    (cond (eqb i record_size) (ascii "half")
    (ascii "full"))))))

-- two numbers that are equal are not told
unfoldable pub if_differs : List ℕ → ℕ → ℕ → List Difference
if_differs key x y = cond (eqb x y) [] (difference key x y ∷ [])

-- for two starts, from number i on
unfoldable pub start_differences : ℕ → List ℕ → List ℕ → List Difference
start_differences i [] ys = []
start_differences i (x ∷ xs) [] = []
start_differences i (x ∷ xs) (y ∷ ys) = if_differs (start_key i) x y ++ start_differences (suc i) xs ys

-- ---- the actions

-- "its roll code + 16 × the move", for the action at the front of some bytes; where it is not a move, the move's bytes are 0
abbrev pub action_number : List ℕ → ℕ
action_number bs = code_of (kind_at bs) (colour_at bs) + 16 * move_number_at bs

-- for the first n actions of some bytes, 4 bytes each
unfoldable pub action_numbers : ℕ → List ℕ → List ℕ
action_numbers zero bs = []
action_numbers (suc n) bs = action_number bs ∷ action_numbers n (drop action_size bs)

unfoldable pub action_key : ℕ → List ℕ
action_key i = ascii "action " ++ decimal i

-- of two games' actions from index i on, the first that differs; "0 if there is none"
unfoldable pub action_difference : ℕ → List ℕ → List ℕ → List Difference
action_difference i [] [] = []
action_difference i [] (y ∷ ys) = difference (action_key i) 0 y ∷ []
action_difference i (x ∷ xs) [] = difference (action_key i) x 0 ∷ []
action_difference i (x ∷ xs) (y ∷ ys) = cond (eqb x y) (action_difference (suc i) xs ys) (difference (action_key i) x y ∷ [])

-- ---- the text

-- " X Y" and a newline
abbrev pub pair_text : ℕ → ℕ → List ℕ
pair_text x y = (32 ∷ []) ++ (decimal x ++ ((32 ∷ []) ++ (decimal y ++ (10 ∷ []))))

-- "its key, then the first and the second game's number, single spaces between"
unfoldable pub line_text : Difference → List ℕ
line_text d = d.key ++ pair_text d.first d.second

unfoldable pub lines_text : List Difference → List ℕ
lines_text [] = []
lines_text (d ∷ ds) = line_text d ++ lines_text ds
