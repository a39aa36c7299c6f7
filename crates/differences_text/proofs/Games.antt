-- What is known of a roll that is read: its start's 68 numbers stand in its first 68 bytes, its counters and its actions are in range, and it is its game's
-- text. So the length of two games' lines.
-- Assumes nothing.
use mathlib.Core.Path.{◌≡◌, ap, sym, ◌∙◌}
use mathlib.Core.Bool.{true}
use mathlib.Core.List.{List, ◌++◌}
use Prim.Native.Nat.{ℕ, ◌*◌, ◌≤◌}
use native.Mathlib.Omega.{arith}
use lib.ListN.{length, take, length-append}
use lib.Seq.{take_at}
use Rattle.answer.specs.Numbers.{all_at_most}
use Rattle.answer.proofs.Numbers.{both_left, both_right}
use Rattle.board_builder.specs.BoardBuilder.{record_size, counters_in_range}
use Rattle.board_builder.proofs.Ranges.{CountersIn, counters_in}
use Rattle.action.specs.Layout.{action_size}
use Rattle.game_rules.specs.Limits.{Limits, actions_length}
use Rattle.roll_text.specs.Number.{number_text}
use Rattle.roll_text.specs.Roll.{Start, start_fits, Rolled, rolled, largest_numbers, within_bounds, numbers_text, counts_text, actions_text, text_by, read_roll}
use Rattle.roll_text.specs.Calls.{roll_answer}
use Rattle.roll_text.proofs.Forth.{accepted_written_back}
use Rattle.roll_text.proofs.Bounds.{bounds_length, long_bounds, bounds_are_the_records}
use Rattle.roll_text.proofs.ByFields.{actions_in_range, held_in_range}
use Rattle.roll_text.proofs.Plain.{start_numbers_lem}
use Rattle.roll_text.proofs.ReadsBack.{judged_long}
use Rattle.roll_text.proofs.Refusals.{IsRolled, roll_told_lem, accepted_rolled}
use Rattle.differences_text.specs.Differences.{start_counts, start_numbers, start_differences, action_numbers, action_difference, lines_text}
use Rattle.differences_text.specs.Calls.{differences}
use Rattle.differences_text.specs.Promises.{longest, reader_number}
use Rattle.differences_text.proofs.Lines.{lines_both, start_counted_lem}
use Rattle.differences_text.proofs.Numbers.{as_many, numbers_small}
use Rattle.differences_text.proofs.Longest.{start_long_lem, counts_long, action_long}

-- what a roll has behind its 68 numbers
abbrev pub behind_numbers : Start → ℕ → List ℕ → List ℕ
behind_numbers st n bs = (number_text st.half ++ number_text st.full) ++ (number_text n ++ actions_text n bs)

pub record Read (L : Limits) (s : List ℕ) (st : Start) (n : ℕ) (bs : List ℕ) : Type 0 where
  pub bounds : within_bounds largest_numbers st.numbers ≡ true
  pub numbers : length st.numbers ≡ record_size
  pub counters : CountersIn st.half st.full
  pub few : n ≤ L.most_actions
  pub held : actions_in_range n bs ≡ true
  pub size : length bs ≡ action_size * n
  pub text : s ≡ st.numbers ++ behind_numbers st n bs
  pub start : st.numbers ≡ take record_size s
  pub long : record_size ≤ length s

pub read_roll_lem : (L : Limits) (s : List ℕ) (st : Start) (n : ℕ) (bs : List ℕ) → all_at_most 255 s ≡ true → read_roll L s ≡ rolled st n bs → Read L s st n bs
unfolding text_by counts_text start_fits
read_roll_lem L s st n bs small e =
    let w = accepted_written_back true L s st n bs small e in
    let g = w.game in
    let xs : List ℕ = st.numbers in
    let bounds : within_bounds largest_numbers xs ≡ true = both_right (counters_in_range st.half st.full) (within_bounds largest_numbers xs) g.start in
    let fits : action_size * n ≤ length bs = omega (arith, g.long) in
    let plain : numbers_text xs ≡ xs = start_numbers_lem xs (sym (bounds_are_the_records xs) ∙ bounds) in
    let numbers : length xs ≡ record_size = bounds_length largest_numbers xs bounds ∙ long_bounds in
    let text : s ≡ xs ++ behind_numbers st n bs = w.text ∙ ap (λ (l : List ℕ). l ++ behind_numbers st n bs) plain in
    record {
      bounds = bounds;
      numbers = numbers;
      counters = counters_in st.half st.full (both_left (counters_in_range st.half st.full) (within_bounds largest_numbers xs) g.start);
      few = g.few;
      held = sym (held_in_range n bs fits) ∙ g.in_range_lem;
      size = g.long;
      text = text;
      start = sym (ap (take record_size) text ∙ take_at xs (behind_numbers st n bs) record_size numbers);
      long = omega (arith, ap length text, length-append xs (behind_numbers st n bs), numbers);
    }

-- the three parts of two games' lines
module _ (L : Limits) (s : List ℕ) (st : Start) (n : ℕ) (bs t : List ℕ) (other : Start) (m : ℕ) (cs : List ℕ) (few : L.most_actions ≤ 10000)
    (first : Read L s st n bs) (second : Read L t other m cs) where
  pub numbers_within : length (lines_text (start_differences 0 st.numbers other.numbers)) ≤ 602
  numbers_within = start_long_lem st.numbers other.numbers first.bounds second.bounds

  pub counts_within : length (lines_text (start_differences record_size (start_counts st) (start_counts other))) ≤ 30
  counts_within = counts_long st other first.counters second.counters

  pub action_within : length (lines_text (action_difference 0 (action_numbers n bs) (action_numbers m cs))) ≤ 26
  action_within =
      action_long 0 (action_numbers n bs) (action_numbers m cs) (omega (arith, as_many n bs, first.few)) (omega (arith, as_many m cs, second.few))
      (numbers_small n bs first.held) (numbers_small m cs second.held)

  -- the start's text, the numbers before the counters
  pub start_text : lines_text (start_differences 0 (start_numbers st) (start_numbers other))
      ≡ lines_text (start_differences 0 st.numbers other.numbers) ++ lines_text (start_differences record_size (start_counts st) (start_counts other))
  start_text =
      ap lines_text (start_counted_lem st other first.numbers second.numbers)
      ∙ lines_both (start_differences 0 st.numbers other.numbers) (start_differences record_size (start_counts st) (start_counts other))

  pub lines_within : length (lines_text (differences (rolled st n bs) (rolled other m cs))) ≤ longest
  unfolding differences
  lines_within =
      let a = start_differences 0 (start_numbers st) (start_numbers other) in
      let b = action_difference 0 (action_numbers n bs) (action_numbers m cs) in
      let p = start_differences 0 st.numbers other.numbers in
      let q = start_differences record_size (start_counts st) (start_counts other) in
      omega (
        arith,
        ap length (lines_both a b),
        length-append (lines_text a) (lines_text b),
        ap length start_text,
        length-append (lines_text p) (lines_text q),
        numbers_within,
        counts_within,
        action_within,
      )

-- the reader's number with a part that is long enough is that of what is read
pub number_read : (L : Limits) (s : List ℕ) → reader_number L s ≡ (roll_answer (read_roll L s)).number
number_read L s =
    let h : actions_length L ≤ actions_length L = omega arith in
    ap (λ (x : Rolled). (roll_answer x).number) (judged_long true L s (actions_length L) h)

pub is_rolled : (L : Limits) (s : List ℕ) → reader_number L s ≡ 0 → IsRolled (read_roll L s)
is_rolled L s e = accepted_rolled (read_roll L s) (roll_told_lem true L s) (sym (number_read L s) ∙ e)
