-- A written roll reads back.
-- Assumes nothing.
use mathlib.Core.Path.{◌≡◌, refl, ap, sym, ◌∙◌}
use mathlib.Core.Bool.{Bool, true, false, false≢true}
use mathlib.Core.List.{List, [], ◌∷◌, ◌++◌, append_assoc}
use Prim.Native.Nat.{ℕ, zero, suc, ◌+◌, ◌*◌, ◌-◌, ◌≤◌}
use native.Mathlib.Omega.{arith}
use lib.Dec.{eqb, leb}
use lib.ListN.{length, drop}
use borrow.Author.Tests.{le-leb, leb-true, ne_eqb, eqb-true}
use Rattle.std.specs.Prelude.{Some, Ok}
use Rattle.answer.specs.Numbers.{all_at_most}
use Rattle.answer.proofs.Numbers.{most_head, most_tail, both_left, both_right}
use Rattle.board_builder.specs.BoardBuilder.{last_count, counters_in_range}
use Rattle.board_builder.proofs.Ranges.{counters_in}
use Rattle.game_rules.specs.Limits.{Limits}
use Rattle.actions.specs.CodeCount.{one_if_move}
use Rattle.action.specs.Layout.{action_size}
use Rattle.roll_text.specs.Number.{number_text, read_number}
use Rattle.roll_text.specs.Roll.{Start, start_fits, front, acts, rolled, largest_numbers, within_bounds, numbers_text, counts_text, actions_text, text_by}
use Rattle.roll_text.specs.Roll.{put_number, read_numbers, put_action, read_actions, with_actions, with_count, with_counts, with_front, read_by}
use Rattle.roll_text.specs.Roll.{full_by, half_by, read_counters}
use Rattle.roll_text.proofs.ByFields.{action_in_range, actions_in_range, moves_among, held_in_range, as_many_moves}
use Rattle.roll_text.specs.Promises.{Countable, formed, RollsReadBack}
use Rattle.roll_text.proofs.Numbers.{numbers_read_back}
use Rattle.roll_text.proofs.Entries.{reach_five, number_next, action_next, behind_both}

pub numbers_back : (ms xs rest : List ℕ) → all_at_most 12 ms ≡ true → within_bounds ms xs ≡ true → read_numbers ms (numbers_text xs ++ rest) ≡ front xs rest
unfolding within_bounds numbers_text read_numbers put_number
numbers_back [] [] rest small e = refl
numbers_back [] (x ∷ xs) rest small e = absurd (false≢true e)
numbers_back (m ∷ ms) [] rest small e = absurd (false≢true e)
numbers_back (m ∷ ms) (x ∷ xs) rest small e =
    let h : x ≤ m = leb-true x m (both_left (leb x m) (within_bounds ms xs) e) in
    let l : m ≤ 12 = most_head 12 m ms small in
    let r = numbers_back ms xs rest (most_tail 12 m ms small) (both_right (leb x m) (within_bounds ms xs) e) in
    rw (append_assoc (number_text x) (numbers_text xs) rest)
    (number_next m x (numbers_text xs ++ rest) (λ t. read_numbers ms t) h (omega (arith, reach_five)) ∙ ap (put_number x) r)

actions_back : (n left : ℕ) (bs : List ℕ) → length bs ≡ 4 * n → all_at_most 255 bs ≡ true → actions_in_range n bs ≡ true → moves_among n bs ≤ left
    → read_actions n left (actions_text n bs) ≡ acts bs
unfolding read_actions actions_text actions_in_range moves_among put_action
actions_back zero left [] long small e few = refl
actions_back zero left (x ∷ bs) long small e few = absurd (omega (arith, long))
actions_back (suc n) left [] long small e few = absurd (omega (arith, long))
actions_back (suc n) left (k ∷ []) long small e few = absurd (omega (arith, long))
actions_back (suc n) left (k ∷ c ∷ []) long small e few = absurd (omega (arith, long))
actions_back (suc n) left (k ∷ c ∷ l ∷ []) long small e few = absurd (omega (arith, long))
actions_back (suc n) left (k ∷ c ∷ l ∷ u ∷ bs) long small e few =
    let small2 = most_tail 255 c (l ∷ u ∷ bs) (most_tail 255 k (c ∷ l ∷ u ∷ bs) small) in
    let hl : l ≤ 255 = most_head 255 l (u ∷ bs) small2 in
    let here : action_in_range k c (l + 256 * u) ≡ true = both_left (action_in_range k c (l + 256 * u)) (actions_in_range n bs) e in
    let there : actions_in_range n bs ≡ true = both_right (action_in_range k c (l + 256 * u)) (actions_in_range n bs) e in
    let r = actions_back n (left - one_if_move k c (l + 256 * u)) bs (omega (arith, long)) (most_tail 255 u bs (most_tail 255 l (u ∷ bs) small2)) there
    (omega (arith, few)) in
    action_next k c l u left (actions_text n bs) (λ j t. read_actions n j t) hl here (omega (arith, few)) ∙ ap (put_action (k ∷ c ∷ l ∷ u ∷ [])) r

pub small_bounds : all_at_most 12 largest_numbers ≡ true
unfolding all_at_most largest_numbers
small_bounds = refl

-- ---- the counters

half_small : (s : List ℕ) (half size : ℕ) → half ≤ last_count → half_by s (Some (half, size)) ≡ full_by half size (read_number (drop size s))
unfolding half_by
half_small s half size h = simp (le-leb _ _ h)

full_small : (half size full more : ℕ) → (full ≡ 0 → ⊥) → full ≤ last_count → full_by half size (Some (full, more)) ≡ Ok (half, full, size + more)
unfolding full_by
full_small half size full more some h = simp (ne_eqb _ _ some, le-leb _ _ h)

-- they and what is behind them
record CountersBack (counted : Bool) (st : Start) (rest : List ℕ) : Type 0 where
  size : ℕ
  read : read_counters counted (counts_text counted st ++ rest) ≡ Ok (st.half, st.full, size)
  behind : drop size (counts_text counted st ++ rest) ≡ rest

counters_back : (counted : Bool) (st : Start) (rest : List ℕ) → counters_in_range st.half st.full ≡ true → formed counted st ≡ true
    → CountersBack counted st rest
unfolding counts_text read_counters formed
counters_back true st rest e f =
    let c = counters_in st.half st.full e in
    let half = number_text st.half in
    let full = number_text st.full in
    let b = numbers_read_back st.half (full ++ rest) (omega (arith, reach_five, c.half_most)) in
    let d = numbers_read_back st.full rest (omega (arith, reach_five, c.full_most)) in
    let read : half_by (half ++ (full ++ rest)) (read_number (half ++ (full ++ rest))) ≡ Ok (st.half, st.full, length half + length full)
    = ap (half_by (half ++ (full ++ rest))) b.number
    ∙ half_small (half ++ (full ++ rest)) st.half (length half) c.half_most
    ∙ ap (λ (l : List ℕ). full_by st.half (length half) (read_number l)) b.behind_it
    ∙ ap (full_by st.half (length half)) d.number
    ∙ full_small st.half (length half) st.full (length full) (λ z. omega (arith, z, c.full_least)) c.full_most in
    let whole = append_assoc half full rest in
    record {
      size = length half + length full;
      read = ap (λ (l : List ℕ). half_by l (read_number l)) whole ∙ read;
      behind = ap (drop (length half + length full)) whole ∙ behind_both half full rest;
    }
counters_back false st rest e f =
    let half : st.half ≡ 0 = eqb-true st.half 0 (both_left (eqb st.half 0) (eqb st.full 1) f) in
    let full : st.full ≡ 1 = eqb-true st.full 1 (both_right (eqb st.half 0) (eqb st.full 1) f) in
    record { size = 0; read = rw (half, full) refl; behind = refl }

-- ---- the roll

count_next : (L : Limits) (st : Start) (n : ℕ) (rest bs : List ℕ) → Countable L → n ≤ L.most_actions → read_actions n L.most_moves rest ≡ acts bs
    → with_count L st (read_number (number_text n ++ rest)) (number_text n ++ rest) ≡ rolled st n bs
unfolding with_count with_actions
count_next L st n rest bs small h e =
    let b = numbers_read_back n rest (omega arith) in
    rw b.number (simp (le-leb _ _ h, b.behind_it, e))

pub rolls_read_back : RollsReadBack
unfolding text_by read_by with_front with_counts start_fits
rolls_read_back counted L st n bs small g form =
    let rest = number_text n ++ actions_text n bs in
    let counters = both_left (counters_in_range st.half st.full) (within_bounds largest_numbers st.numbers) g.start in
    let within = both_right (counters_in_range st.half st.full) (within_bounds largest_numbers st.numbers) g.start in
    let f = numbers_back largest_numbers st.numbers (counts_text counted st ++ rest) small_bounds within in
    let c = counters_back counted st rest counters form in
    let fits : action_size * n ≤ length bs = omega (arith, g.long) in
    let held : actions_in_range n bs ≡ true = sym (held_in_range n bs fits) ∙ g.in_range_lem in
    let few : moves_among n bs ≤ L.most_moves = omega (arith, as_many_moves n bs fits, g.few_moves) in
    let a = actions_back n L.most_moves bs g.long g.bytes held few in
    rw (f, c.read, c.behind) (count_next L st n (actions_text n bs) bs small g.few a)
