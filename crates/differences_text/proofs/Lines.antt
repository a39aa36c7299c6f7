-- Laws of the lines: those of two lists one behind the other, of a start from a place on, and of a start's 68 numbers and its counters.
-- Assumes nothing.
use mathlib.Core.Path.{◌≡◌, refl, sym, ap, ◌∙◌}
use mathlib.Core.List.{List, [], ◌∷◌, ◌++◌, append_assoc}
use Prim.Native.Nat.{ℕ, suc, ◌+◌, ◌≤◌, ◌<◌}
use native.Mathlib.Nat.{add-zero, zero-add}
use native.Mathlib.Omega.{arith}
use lib.ListN.{length, drop, get_or, drop_of_length-le, length-append}
use lib.Seq.{drop-cons}
use Rattle.board_builder.specs.BoardBuilder.{record_size}
use Rattle.roll_text.specs.Roll.{Start}
use Rattle.differences_text.specs.Differences.{Difference, start_counts, start_numbers, start_size, start_key, if_differs, start_differences}
use Rattle.differences_text.specs.Differences.{line_text, lines_text}

pub lines_both : (ds es : List Difference) → lines_text (ds ++ es) ≡ lines_text ds ++ lines_text es
unfolding lines_text
lines_both [] es = refl
lines_both (d ∷ ds) es = ap (λ (l : List ℕ). line_text d ++ l) (lines_both ds es) ∙ sym (append_assoc (line_text d) (lines_text ds) (lines_text es))

-- ---- a start from number i on

pub start_turn : (xs ys : List ℕ) (i : ℕ) → i < length xs → i < length ys
    → start_differences i (drop i xs) (drop i ys)
    ≡ if_differs (start_key i) (get_or xs i 0) (get_or ys i 0) ++ start_differences (suc i) (drop (suc i) xs) (drop (suc i) ys)
unfolding start_differences
start_turn xs ys i h k = rw (drop-cons xs i 0 h, drop-cons ys i 0 k)

pub start_end : (xs ys : List ℕ) (i : ℕ) → length xs ≤ i → start_differences i (drop i xs) (drop i ys) ≡ []
unfolding start_differences
start_end xs ys i h = rw (drop_of_length-le xs h)

-- ---- two starts, each in two parts

start_parts : (i : ℕ) (xs us ys vs : List ℕ) → length xs ≡ length ys
    → start_differences i (xs ++ us) (ys ++ vs) ≡ start_differences i xs ys ++ start_differences (i + length xs) us vs
unfolding start_differences
start_parts i [] us [] vs e = ap (λ (k : ℕ). start_differences k us vs) (sym (add-zero i))
start_parts i [] us (y ∷ ys) vs e = absurd (omega (arith, e))
start_parts i (x ∷ xs) us [] vs e = absurd (omega (arith, e))
start_parts i (x ∷ xs) us (y ∷ ys) vs e =
    let place : suc i + length xs ≡ i + suc (length xs) = omega arith in
    ap (λ (ds : List Difference). if_differs (start_key i) x y ++ ds)
    (start_parts (suc i) xs us ys vs (omega (arith, e)) ∙ ap (λ (k : ℕ). start_differences (suc i) xs ys ++ start_differences k us vs) place)
    ∙ sym (append_assoc (if_differs (start_key i) x y) (start_differences (suc i) xs ys) (start_differences (i + suc (length xs)) us vs))

pub start_counted_lem : (st other : Start) → length st.numbers ≡ record_size → length other.numbers ≡ record_size
    → start_differences 0 (start_numbers st) (start_numbers other)
    ≡ start_differences 0 st.numbers other.numbers ++ start_differences record_size (start_counts st) (start_counts other)
unfolding start_numbers
start_counted_lem st other a b =
    start_parts 0 st.numbers (start_counts st) other.numbers (start_counts other) (a ∙ sym b)
    ∙ ap (λ (k : ℕ). start_differences 0 st.numbers other.numbers ++ start_differences k (start_counts st) (start_counts other)) (zero-add _ ∙ a)

pub start_numbers_long : (st : Start) → length st.numbers ≡ record_size → length (start_numbers st) ≡ start_size
unfolding start_numbers
start_numbers_long st a = length-append st.numbers (start_counts st) ∙ omega arith
