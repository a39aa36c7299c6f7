-- A roll (document 02, orders 1 and 12): the 70 record numbers of the start, the action count, then for each action kind × 2 + colour and, for a move, the
-- move number. An old roll has 68 numbers and no counters. The text of either, and how a text is read, from the left, with the limits as an argument.
-- Assumes nothing.
use Rattle.std.specs.Prelude.{ℕ, zero, suc, ◌+◌, ◌*◌, ◌-◌, ◌/◌, ◌%◌, Bool, true, false, cond, ◌&&◌, List, [], ◌∷◌, ◌++◌, eqb, leb, drop, get_or, replicate}
use Rattle.std.specs.Prelude.{Some, None, Result, Ok, Err}
use Rattle.answer.specs.Answer.{out_of_range, log_full, bad_roll}
use Rattle.board_builder.specs.declared.BoardBuilder.{BoardBuilder}
use Rattle.board_builder.specs.BoardBuilder.{squares, last_count, counters_in_range, numbers, board_of, with_counters}
use Rattle.chess_move.specs.Number.{last_move, of_bytes}
use Rattle.action.specs.Layout.{action_size, fields}
use Rattle.game_rules.specs.Limits.{Limits}
use Rattle.roll_text.specs.declared.Entry.{Entry}
use Rattle.roll_text.specs.declared.Entry.TheVariants.{Move, Plain}
use Rattle.roll_text.specs.Number.{Number, number_text, read_number}

-- ---- the record's 68 numbers before the counters: the largest that each may be, in their order

unfoldable pub largest_numbers : List ℕ
largest_numbers = replicate squares 12 ++ (1 ∷ 3 ∷ 3 ∷ 8 ∷ [])

-- as many numbers as there are bounds, none over its own
unfoldable pub within_bounds : List ℕ → List ℕ → Bool
within_bounds [] [] = true
within_bounds [] (x ∷ xs) = false
within_bounds (m ∷ ms) [] = false
within_bounds (m ∷ ms) (x ∷ xs) = leb x m && within_bounds ms xs

-- a start: the 68 numbers, the half-move clock and the move number
pub record Start : Type 0 where
  pub numbers : List ℕ
  pub half : ℕ
  pub full : ℕ

unfoldable pub start_fits : Start → Bool
start_fits st = counters_in_range st.half st.full && within_bounds largest_numbers st.numbers

-- that of a record, and the record of a start
abbrev pub start_from : BoardBuilder → Start
start_from b = record { numbers = numbers b; half = b.half_moves; full = b.full_moves }

abbrev pub start_board : Start → BoardBuilder
start_board st = with_counters (board_of st.numbers) st.half st.full

-- ---- the text

unfoldable pub numbers_text : List ℕ → List ℕ
numbers_text [] = []
numbers_text (x ∷ xs) = number_text x ++ numbers_text xs

abbrev pub code_of : ℕ → ℕ → ℕ
code_of kind colour = kind * 2 + colour

-- kind 1 is a move
unfoldable pub action_text : ℕ → ℕ → ℕ → List ℕ
action_text kind colour move = cond (eqb kind 1) (number_text (code_of kind colour) ++ number_text move) (number_text (code_of kind colour))

-- the fields of the action at the front of some bytes
abbrev pub kind_at : List ℕ → ℕ
kind_at bs = get_or bs 0 0

abbrev pub colour_at : List ℕ → ℕ
colour_at bs = get_or bs 1 0

abbrev pub move_number_at : List ℕ → ℕ
move_number_at bs = of_bytes (get_or bs 2 0) (get_or bs 3 0)

-- the first n actions of some bytes, 4 bytes each
unfoldable pub actions_text : ℕ → List ℕ → List ℕ
actions_text zero bs = []
actions_text (suc n) bs = action_text (kind_at bs) (colour_at bs) (move_number_at bs) ++ actions_text n (drop action_size bs)

-- the counters, where a roll has them
unfoldable pub counts_text : Bool → Start → List ℕ
counts_text true st = number_text st.half ++ number_text st.full
counts_text false st = []

-- a roll with counters or without
unfoldable pub text_by : Bool → Start → ℕ → List ℕ → List ℕ
text_by counted st n bs = numbers_text st.numbers ++ (counts_text counted st ++ (number_text n ++ actions_text n bs))

abbrev pub roll_text : Start → ℕ → List ℕ → List ℕ
roll_text st n bs = text_by true st n bs

-- the codes: 2 is a move's; 4 and 5 offers, 6 accept, 8 declare, 10 and 11 resignations
unfoldable pub is_code : ℕ → Bool
is_code code =
    cond (eqb code 4) true
    (cond (eqb code 5) true
    (cond (eqb code 6) true
    (cond (eqb code 8) true
    (cond (eqb code 10) true
    (cond (eqb code 11) true false)))))

-- ---- reading, from the left

-- the record's numbers and what is left of the text, or a refusal
pub data Front : Type 0 where
  stopped : ℕ → Front
  front : List ℕ → List ℕ → Front

unfoldable pub put_number : ℕ → Front → Front
put_number x (stopped k) = stopped k
put_number x (front xs rest) = front (x ∷ xs) rest

-- 17 for what is not a number, before 5 for one over its bound
unfoldable pub one_number : ℕ → Number → List ℕ → (List ℕ → Front) → Front
one_number most None s go = stopped bad_roll
one_number most (Some (x, size)) s go = cond (leb x most) (put_number x (go (drop size s))) (stopped out_of_range)

unfoldable pub read_numbers : List ℕ → List ℕ → Front
read_numbers [] s = front [] s
read_numbers (m ∷ ms) s = one_number m (read_number s) s (λ t. read_numbers ms t)

-- the half-move clock, the move number, and how many bytes they take, or a refusal
abbrev pub Counters : Type 0
Counters = Result (ℕ × ℕ × ℕ) ℕ

-- the move number: 17 for what is not a number, 5 for 0 and for one over its bound
unfoldable pub full_by : ℕ → ℕ → Number → Counters
full_by half size None = Err bad_roll
full_by half size (Some (full, more)) =
    cond (eqb full 0) (Err out_of_range)
    (cond (leb full last_count) (Ok (half, full, size + more)) (Err out_of_range))

-- the half-move clock, and the move number behind it
unfoldable pub half_by : List ℕ → Number → Counters
half_by s None = Err bad_roll
half_by s (Some (half, size)) = cond (leb half last_count) (full_by half size (read_number (drop size s))) (Err out_of_range)

-- an old roll has none and gets 0 and 1
unfoldable pub read_counters : Bool → List ℕ → Counters
read_counters true s = half_by s (read_number s)
read_counters false s = Ok (0, 1, 0)

-- a move's number
unfoldable pub moved_by : ℕ → Number → Result Entry ℕ
moved_by size None = Err bad_roll
moved_by size (Some (move, more)) = cond (leb move last_move) (Ok (Move move (size + more))) (Err bad_roll)

-- `full` means that no more moves may come: 13 at the move's code, before its number is read
unfoldable pub coded : Bool → List ℕ → Number → Result Entry ℕ
coded full s None = Err bad_roll
coded full s (Some (code, size)) =
    cond (eqb code 2) (cond full (Err log_full) (moved_by size (read_number (drop size s))))
    (cond (is_code code) (Ok (Plain code size)) (Err bad_roll))

abbrev pub read_entry : Bool → List ℕ → Result Entry ℕ
read_entry full s = coded full s (read_number s)

-- the actions' bytes, or a refusal
pub data Acts : Type 0 where
  halted : ℕ → Acts
  acts : List ℕ → Acts

unfoldable pub put_action : List ℕ → Acts → Acts
put_action bs (halted k) = halted k
put_action bs (acts cs) = acts (bs ++ cs)

-- `left` moves may come
unfoldable pub next_action : Result Entry ℕ → ℕ → List ℕ → (ℕ → List ℕ → Acts) → Acts
next_action (Ok (Move move size)) left s go = put_action (fields 1 0 move) (go (left - 1) (drop size s))
next_action (Ok (Plain code size)) left s go = put_action (fields (code / 2) (code % 2) 0) (go left (drop size s))
next_action (Err k) left s go = halted k

-- n actions, and then the text's end
unfoldable pub read_actions : ℕ → ℕ → List ℕ → Acts
read_actions zero left [] = acts []
read_actions zero left (b ∷ bs) = halted bad_roll
read_actions (suc n) left s = next_action (read_entry (eqb left 0) s) left s (λ l t. read_actions n l t)

-- a start, the action count and the actions' bytes, or a refusal
pub data Rolled : Type 0 where
  refusal : ℕ → Rolled
  rolled : Start → ℕ → List ℕ → Rolled

unfoldable pub with_actions : Start → ℕ → Acts → Rolled
with_actions st n (halted k) = refusal k
with_actions st n (acts bs) = rolled st n bs

-- 17 for what is not a number, before 13 for a count over the limit
unfoldable pub with_count : Limits → Start → Number → List ℕ → Rolled
with_count L st None s = refusal bad_roll
with_count L st (Some (n, size)) s = cond (leb n L.most_actions) (with_actions st n (read_actions n L.most_moves (drop size s))) (refusal log_full)

unfoldable pub with_counts : Limits → List ℕ → Counters → List ℕ → Rolled
with_counts L numbers (Err k) s = refusal k
with_counts L numbers (Ok (half, full, size)) s =
    with_count L (record { numbers = numbers; half = half; full = full }) (read_number (drop size s)) (drop size s)

unfoldable pub with_front : Bool → Limits → Front → Rolled
with_front counted L (stopped k) = refusal k
with_front counted L (front numbers s) = with_counts L numbers (read_counters counted s) s

-- a roll with counters or without
unfoldable pub read_by : Bool → Limits → List ℕ → Rolled
read_by counted L s = with_front counted L (read_numbers largest_numbers s)

abbrev pub read_roll : Limits → List ℕ → Rolled
read_roll L s = read_by true L s

abbrev pub read_old_roll : Limits → List ℕ → Rolled
read_old_roll L s = read_by false L s
