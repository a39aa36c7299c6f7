-- The longest text: a start number's line is longest at its bound, with as many digits as the bound has; an action's has at most four digits of index and
-- six in each number.
-- Assumes nothing.
use mathlib.Core.Path.{◌≡◌, refl, ap, ◌∙◌}
use mathlib.Core.Bool.{Bool, true, false, cond, false≢true}
use mathlib.Core.List.{List, [], ◌∷◌, append-nil}
use Prim.Native.Nat.{ℕ, suc, ◌+◌, ◌*◌, ◌/◌, ◌%◌, ◌≤◌, ◌<◌}
use native.Mathlib.Omega.{arith}
use lib.Dec.{eqb, ltb, leb}
use lib.ListN.{length, length-append}
use borrow.Author.Tests.{ltb-true, ltb-false, leb-true, le-leb}
use Rattle.answer.specs.Ascii.{ascii}
use Rattle.answer.specs.Numbers.{all_at_most}
use Rattle.answer.proofs.Numbers.{both_left, both_right, most_head, most_tail}
use Rattle.decimal.specs.Decimal.{digits, decimal}
use Rattle.decimal.proofs.Digits.{decimal_one, decimal_more, by_tens, decimal_in}
use Rattle.board_builder.specs.BoardBuilder.{record_size, last_count}
use Rattle.board_builder.proofs.Ranges.{CountersIn}
use Rattle.roll_text.specs.Roll.{Start, largest_numbers, within_bounds}
use Rattle.differences_text.specs.Differences.{difference, start_counts, start_key, if_differs, start_differences, action_key, action_difference}
use Rattle.differences_text.specs.Differences.{line_text, lines_text}
use Rattle.differences_text.proofs.Lines.{lines_both}
use Rattle.differences_text.proofs.Numbers.{largest_number}

-- ---- digits

abbrev pub long : ℕ → ℕ
long n = length (decimal n)

long_one : (n : ℕ) → n < 10 → long n ≡ 1
long_one n h = ap length (decimal_one n h)

long_more : (n : ℕ) → 10 ≤ n → long n ≡ long (n / 10) + 1
long_more n h = ap length (decimal_more n h) ∙ length-append (decimal (n / 10)) ((48 + n % 10) ∷ [])

pub no_longer : (m n : ℕ) → n ≤ m → long n ≤ long m
no_longer = by_tens (λ (m : ℕ). (n : ℕ) → n ≤ m → long n ≤ long m) one more
  where
    one : (m : ℕ) → m < 10 → (n : ℕ) → n ≤ m → long n ≤ long m
    one m h n l = omega (arith, long_one m h, long_one n (omega arith))

    more : (m : ℕ) → 10 ≤ m → ((n : ℕ) → n ≤ m / 10 → long n ≤ long (m / 10)) → (n : ℕ) → n ≤ m → long n ≤ long m
    more m h tens n l = go (ltb n 10) refl
      where
        go : (t : Bool) → ltb n 10 ≡ t → long n ≤ long m
        go true e = omega (arith, long_one n (ltb-true n 10 e), long_more m h)
        go false e =
            let ten : 10 ≤ n = ltb-false n 10 e in
            omega (arith, long_more n ten, long_more m h, tens (n / 10) (omega arith))

-- ---- a line

line_long : (key : List ℕ) (x y : ℕ) → length (line_text (difference key x y)) ≡ length key + 3 + long x + long y
unfolding line_text
line_long key x y = simp length-append (omega arith)

pub one_line : (key : List ℕ) (x y : ℕ) → length (lines_text (difference key x y ∷ [])) ≡ length key + 3 + long x + long y
unfolding lines_text
one_line key x y = ap length (append-nil (line_text (difference key x y))) ∙ line_long key x y

if_differs_long : (key : List ℕ) (x y m : ℕ) → x ≤ m → y ≤ m → length (lines_text (if_differs key x y)) ≤ length key + 3 + 2 * long m
unfolding if_differs lines_text
if_differs_long key x y m h l = go (eqb x y)
  where
    go : (t : Bool) → length (lines_text (cond t [] (difference key x y ∷ []))) ≤ length key + 3 + 2 * long m
    go true = omega arith
    go false = omega (arith, one_line key x y, no_longer m x h, no_longer m y l)

-- ---- the start

-- the lines of numbers from i on, each at its bound
unfoldable at_bounds : ℕ → List ℕ → ℕ
at_bounds i [] = 0
at_bounds i (m ∷ ms) = length (start_key i) + 3 + 2 * long m + at_bounds (suc i) ms

start_bound : (i : ℕ) (ms xs ys : List ℕ) → within_bounds ms xs ≡ true → within_bounds ms ys ≡ true
    → length (lines_text (start_differences i xs ys)) ≤ at_bounds i ms
unfolding within_bounds start_differences lines_text at_bounds
start_bound i [] [] ys h k = omega arith
start_bound i [] (x ∷ xs) ys h k = absurd (false≢true h)
start_bound i (m ∷ ms) [] ys h k = absurd (false≢true h)
start_bound i (m ∷ ms) (x ∷ xs) [] h k = absurd (false≢true k)
start_bound i (m ∷ ms) (x ∷ xs) (y ∷ ys) h k =
    let left = start_bound (suc i) ms xs ys (both_right (leb x m) (within_bounds ms xs) h) (both_right (leb y m) (within_bounds ms ys) k) in
    let a : x ≤ m = leb-true x m (both_left (leb x m) (within_bounds ms xs) h) in
    let b : y ≤ m = leb-true y m (both_left (leb y m) (within_bounds ms ys) k) in
    let both = ap length (lines_both (if_differs (start_key i) x y) (start_differences (suc i) xs ys)) in
    omega (
      arith,
      both,
      length-append (lines_text (if_differs (start_key i) x y)) (lines_text (start_differences (suc i) xs ys)),
      if_differs_long (start_key i) x y m a b,
      left,
    )

all_at_bounds : at_bounds 0 largest_numbers ≡ 602
unfolding at_bounds largest_numbers start_key decimal digits ascii
all_at_bounds = refl

pub start_long_lem : (xs ys : List ℕ) → within_bounds largest_numbers xs ≡ true → within_bounds largest_numbers ys ≡ true
    → length (lines_text (start_differences 0 xs ys)) ≤ 602
start_long_lem xs ys h k = omega (arith, start_bound 0 largest_numbers xs ys h k, all_at_bounds)

-- ---- its counters

abbrev largest_counts : List ℕ
largest_counts = last_count ∷ last_count ∷ []

counts_within : (st : Start) → CountersIn st.half st.full → within_bounds largest_counts (start_counts st) ≡ true
unfolding within_bounds
counts_within st c = simp (le-leb _ _ c.half_most, le-leb _ _ c.full_most)

counts_at_bounds : at_bounds record_size largest_counts ≡ 30
unfolding at_bounds start_key decimal digits ascii
counts_at_bounds = refl

pub counts_long : (st other : Start) → CountersIn st.half st.full → CountersIn other.half other.full
    → length (lines_text (start_differences record_size (start_counts st) (start_counts other))) ≤ 30
counts_long st other c d =
    let bound = start_bound record_size largest_counts (start_counts st) (start_counts other) (counts_within st c) (counts_within other d) in
    omega (arith, bound, counts_at_bounds)

-- ---- the action

pub largest_long : long largest_number ≡ 6
unfolding digits
largest_long = ap length (decimal_in 5 largest_number (omega arith))

last_index_long : long 9999 ≡ 4
unfolding digits
last_index_long = ap length (decimal_in 3 9999 (omega arith))

pub key_long : (i : ℕ) → length (action_key i) ≡ 7 + long i
unfolding action_key ascii
key_long i = length-append (ascii "action ") (decimal i)

told_long : (i x y : ℕ) → i < 10000 → x ≤ largest_number → y ≤ largest_number → length (lines_text (difference (action_key i) x y ∷ [])) ≤ 26
told_long i x y h k l =
    omega (
      arith,
      one_line (action_key i) x y,
      key_long i,
      no_longer 9999 i (omega arith),
      no_longer largest_number x k,
      no_longer largest_number y l,
      largest_long,
      last_index_long,
    )

pub action_long : (i : ℕ) (xs ys : List ℕ) → i + length xs ≤ 10000 → i + length ys ≤ 10000 → all_at_most largest_number xs ≡ true
    → all_at_most largest_number ys ≡ true → length (lines_text (action_difference i xs ys)) ≤ 26
unfolding action_difference lines_text
action_long i [] [] h k a b = omega arith
action_long i [] (y ∷ ys) h k a b = told_long i 0 y (omega arith) (omega arith) (most_head largest_number y ys b)
action_long i (x ∷ xs) [] h k a b = told_long i x 0 (omega arith) (most_head largest_number x xs a) (omega arith)
action_long i (x ∷ xs) (y ∷ ys) h k a b =
    go (eqb x y) (action_long (suc i) xs ys (omega arith) (omega arith) (most_tail largest_number x xs a) (most_tail largest_number y ys b))
  where
    go : (t : Bool) → length (lines_text (action_difference (suc i) xs ys)) ≤ 26
        → length (lines_text (cond t (action_difference (suc i) xs ys) (difference (action_key i) x y ∷ []))) ≤ 26
    go true left = left
    go false left = told_long i x y (omega arith) (most_head largest_number x xs a) (most_head largest_number y ys b)
