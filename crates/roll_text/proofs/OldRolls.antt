-- An old roll and the new one that has 0 and 1 behind its 68 numbers: accepted together, and what is written of either.
-- Assumes nothing.
use mathlib.Core.Path.{◌≡◌, refl, ap, sym, ◌∙◌}
use mathlib.Core.Bool.{Bool, true, false}
use mathlib.Core.List.{List, [], ◌∷◌, ◌++◌}
use Prim.Native.Nat.{ℕ}
use native.Mathlib.Omega.{arith}
use lib.ListN.{length, take, drop, take-append-drop}
use lib.Seq.{take_at, length-take-le}
use Rattle.answer.specs.Numbers.{all_at_most}
use Rattle.answer.proofs.Numbers.{both_right, most_head, most_tail, most_cons, most_take, most_drop}
use Rattle.board_builder.specs.BoardBuilder.{record_size, counters_in_range}
use Rattle.game_rules.specs.Limits.{Limits}
use Rattle.roll_text.specs.Number.{read_groups, number_text}
use Rattle.roll_text.specs.Roll.{Start, start_fits, rolled, front, largest_numbers, within_bounds, counts_text, actions_text, text_by, roll_text}
use Rattle.roll_text.specs.Roll.{full_by, half_by, read_counters, read_numbers, with_counts, with_front, read_by, read_roll, read_old_roll}
use Rattle.roll_text.specs.Calls.{judged_by}
use Rattle.roll_text.specs.Promises.{formed, anew, OldIsNew, OldIsWrittenAnew}
use Rattle.roll_text.proofs.Back.{numbers_back, small_bounds}
use Rattle.roll_text.proofs.Bounds.{bounds_length, long_bounds}
use Rattle.roll_text.proofs.Plain.{numbers_plain}
use Rattle.roll_text.proofs.Forth.{accepted_written_back}
use Rattle.roll_text.proofs.Refusals.{judged_told, accepted_rolled}
use Rattle.roll_text.proofs.WritesBack.{judged_read, again}

-- the 68 numbers of an accepted roll are its first 68 bytes
record Fronts (counted : Bool) (s : List ℕ) (st : Start) (n : ℕ) (bs : List ℕ) : Type 0 where
  within : within_bounds largest_numbers st.numbers ≡ true
  long : length st.numbers ≡ record_size
  whole : s ≡ st.numbers ++ (counts_text counted st ++ (number_text n ++ actions_text n bs))
  first : take record_size s ≡ st.numbers
  form : formed counted st ≡ true

fronts : (counted : Bool) (L : Limits) (s : List ℕ) (st : Start) (n : ℕ) (bs : List ℕ) → all_at_most 255 s ≡ true → read_by counted L s ≡ rolled st n bs
    → Fronts counted s st n bs
unfolding start_fits text_by
fronts counted L s st n bs small e =
    let b = accepted_written_back counted L s st n bs small e in
    let within = both_right (counters_in_range st.half st.full) (within_bounds largest_numbers st.numbers) b.game.start in
    let long : length st.numbers ≡ record_size = bounds_length largest_numbers st.numbers within ∙ long_bounds in
    let rest = counts_text counted st ++ (number_text n ++ actions_text n bs) in
    let whole : s ≡ st.numbers ++ rest = b.text ∙ ap (λ (l : List ℕ). l ++ rest) (numbers_plain largest_numbers st.numbers small_bounds within) in
    record { within = within; long = long; whole = whole; first = ap (take record_size) whole ∙ take_at st.numbers rest record_size long; form = b.form }

-- 68 numbers within their bounds, and what is read behind them
numbers_first : (xs rest : List ℕ) → within_bounds largest_numbers xs ≡ true → read_numbers largest_numbers (xs ++ rest) ≡ front xs rest
numbers_first xs rest within =
    ap (λ (l : List ℕ). read_numbers largest_numbers (l ++ rest)) (sym (numbers_plain largest_numbers xs small_bounds within))
    ∙ numbers_back largest_numbers xs rest small_bounds within

-- 0 and 1 behind them are what an old roll gets
same_behind : (L : Limits) (xs rest : List ℕ) → within_bounds largest_numbers xs ≡ true → read_roll L (xs ++ (0 ∷ 1 ∷ rest)) ≡ read_old_roll L (xs ++ rest)
unfolding read_by with_front with_counts read_counters half_by full_by read_groups
same_behind L xs rest within = rw (numbers_first xs (0 ∷ 1 ∷ rest) within, numbers_first xs rest within) refl

same_anew : (L : Limits) (s : List ℕ) → within_bounds largest_numbers (take record_size s) ≡ true → read_roll L (anew s) ≡ read_old_roll L s
same_anew L s within =
    same_behind L (take record_size s) (drop record_size s) within ∙ ap (read_old_roll L) (take-append-drop record_size s)

both_most : (m : ℕ) (xs ys : List ℕ) → all_at_most m xs ≡ true → all_at_most m ys ≡ true → all_at_most m (xs ++ ys) ≡ true
both_most m [] ys e f = f
both_most m (x ∷ xs) ys e f = most_cons m x (xs ++ ys) (most_head m x xs e) (both_most m xs ys (most_tail m x xs e) f)

anew_bytes : (s : List ℕ) → all_at_most 255 s ≡ true → all_at_most 255 (anew s) ≡ true
anew_bytes s small =
    both_most 255 (take record_size s) (0 ∷ 1 ∷ drop record_size s) (most_take record_size 255 s small)
    (most_cons 255 0 (1 ∷ drop record_size s) (omega arith) (most_cons 255 1 (drop record_size s) (omega arith) (most_drop record_size 255 s small)))

pub old_is_new : OldIsNew
old_is_new L s st n bs small long =
    record {
      forth = λ e. let f = fronts false L s st n bs small e in same_anew L s (ap (within_bounds largest_numbers) f.first ∙ f.within) ∙ e;
      back = λ e.
          let f = fronts true L (anew s) st n bs (anew_bytes s small) e in
          let first : take record_size (anew s) ≡ take record_size s
          = take_at (take record_size s) (0 ∷ 1 ∷ drop record_size s) record_size (length-take-le record_size s long) in
          sym (same_anew L s (ap (within_bounds largest_numbers) (sym first ∙ f.first) ∙ f.within)) ∙ e;
    }

-- the new text of an old roll's game
written_anew : (L : Limits) (s : List ℕ) (st : Start) (n : ℕ) (bs : List ℕ) → all_at_most 255 s ≡ true → read_old_roll L s ≡ rolled st n bs
    → roll_text st n bs ≡ anew s
written_anew L s st n bs small e =
    let f = fronts false L s st n bs small e in
    let m = same_anew L s (ap (within_bounds largest_numbers) f.first ∙ f.within) ∙ e in
    sym (accepted_written_back true L (anew s) st n bs (anew_bytes s small) m).text

pub old_is_written_anew : OldIsWrittenAnew
old_is_written_anew L s old out small e room =
    let r = accepted_rolled (judged_by false L s (length old)) (judged_told false L s (length old)) e in
    let read = (judged_read false L s (length old) r.start r.count r.actions r.is).read in
    let new = written_anew L s r.start r.count r.actions small read in
    again false L s old r.start r.count r.actions small r.is (anew s) out new room
