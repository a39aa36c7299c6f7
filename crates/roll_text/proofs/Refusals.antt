-- What holds of 5, 13 and 17 holds of the number with which a text is refused. So it is not 0, and what is answered with 0 was read.
-- Assumes nothing.
use mathlib.Core.Path.{◌≡◌, refl, sym, ap, ◌∙◌}
use mathlib.Core.Bool.{Bool, true, false, not, false≢true}
use mathlib.Core.List.{List, [], ◌∷◌}
use Prim.Native.Nat.{ℕ, zero, suc, ◌-◌, ◌/◌, ◌%◌}
use lib.Dec.{eqb, leb, ltb}
use lib.ListN.{drop}
use borrow.Author.Tests.{eq-eqb}
use Rattle.std.specs.Prelude.{Option, Some, None, Result, Ok, Err, ok_or}
use Rattle.answer.specs.Answer.{out_of_range, log_full, bad_roll}
use Rattle.board_builder.specs.BoardBuilder.{last_count}
use Rattle.chess_move.specs.Number.{last_move}
use Rattle.action.specs.Layout.{fields}
use Rattle.game_rules.specs.Limits.{Limits, actions_length}
use Rattle.roll_text.specs.declared.Entry.{Entry}
use Rattle.roll_text.specs.declared.Entry.TheVariants.{Move, Plain}
use Rattle.roll_text.specs.Number.{Number, read_number}
use Rattle.roll_text.specs.Roll.{Counters, Front, stopped, front, put_number, one_number, read_numbers}
use Rattle.roll_text.specs.Roll.{Acts, halted, acts, moved_by, is_code, coded, read_entry, put_action, next_action, read_actions}
use Rattle.roll_text.specs.Roll.{Start, Rolled, refusal, rolled, with_actions, with_count, with_counts, with_front, read_by, largest_numbers}
use Rattle.roll_text.specs.Roll.{full_by, half_by, read_counters}
use Rattle.roll_text.specs.Calls.{roll_answer, judged_by}

-- any test that holds of the three numbers with which a text is refused: 5, 13 and 17
pub record Passes (test : ℕ → Bool) : Type 0 where
  pub range : test out_of_range ≡ true
  pub full : test log_full ≡ true
  pub bad : test bad_roll ≡ true

unfoldable front_passes : (ℕ → Bool) → Front → Bool
front_passes test (stopped k) = test k
front_passes test (front xs s) = true

unfoldable counters_pass : (ℕ → Bool) → Counters → Bool
counters_pass test (Ok (half, full, size)) = true
counters_pass test (Err k) = test k

unfoldable entry_passes : (ℕ → Bool) → Result Entry ℕ → Bool
entry_passes test (Ok (Move move size)) = true
entry_passes test (Ok (Plain code size)) = true
entry_passes test (Err k) = test k

unfoldable acts_passes : (ℕ → Bool) → Acts → Bool
acts_passes test (halted k) = test k
acts_passes test (acts bs) = true

unfoldable pub roll_passes : (ℕ → Bool) → Rolled → Bool
roll_passes test (refusal k) = test k
roll_passes test (rolled xs n bs) = true

module _ (test : ℕ → Bool) (p : Passes test) where
  -- ---- the record's numbers

  put_told : (x : ℕ) (f : Front) → front_passes test f ≡ true → front_passes test (put_number x f) ≡ true
  unfolding put_number front_passes
  put_told x (stopped k) e = e
  put_told x (front xs s) e = refl

  one_told : (most : ℕ) (x : Number) (s : List ℕ) (go : List ℕ → Front) → ((t : List ℕ) → front_passes test (go t) ≡ true)
      → front_passes test (one_number most x s go) ≡ true
  unfolding one_number front_passes
  one_told most None s go h = p.bad
  one_told most (Some (x, size)) s go h = by (leb x most) refl
    where
      by : (t : Bool) → leb x most ≡ t → front_passes test (one_number most (Some (x, size)) s go) ≡ true
      by true f = simp f (put_told x (go (drop size s)) (h (drop size s)))
      by false f = simp f p.range

  numbers_told : (ms s : List ℕ) → front_passes test (read_numbers ms s) ≡ true
  unfolding read_numbers front_passes
  numbers_told [] s = refl
  numbers_told (m ∷ ms) s = one_told m (read_number s) s (λ t. read_numbers ms t) (λ t. numbers_told ms t)

  -- ---- the counters

  full_told : (half size : ℕ) (x : Number) → counters_pass test (full_by half size x) ≡ true
  unfolding full_by counters_pass
  full_told half size None = p.bad
  full_told half size (Some (full, more)) = by (eqb full 0) (leb full last_count) refl refl
    where
      by : (t u : Bool) → eqb full 0 ≡ t → leb full last_count ≡ u → counters_pass test (full_by half size (Some (full, more))) ≡ true
      by true u e f = simp e p.range
      by false true e f = simp (e, f)
      by false false e f = simp (e, f) p.range

  half_told : (s : List ℕ) (x : Number) → counters_pass test (half_by s x) ≡ true
  unfolding half_by counters_pass
  half_told s None = p.bad
  half_told s (Some (half, size)) = by (leb half last_count) refl
    where
      by : (t : Bool) → leb half last_count ≡ t → counters_pass test (half_by s (Some (half, size))) ≡ true
      by true f = simp f (full_told half size (read_number (drop size s)))
      by false f = simp f p.range

  counters_told : (counted : Bool) (s : List ℕ) → counters_pass test (read_counters counted s) ≡ true
  unfolding read_counters counters_pass
  counters_told true s = half_told s (read_number s)
  counters_told false s = refl

  -- ---- the actions

  moved_told : (size : ℕ) (x : Number) → entry_passes test (moved_by size x) ≡ true
  unfolding moved_by entry_passes
  moved_told size None = p.bad
  moved_told size (Some (move, more)) = by (leb move last_move) refl
    where
      by : (t : Bool) → leb move last_move ≡ t → entry_passes test (moved_by size (Some (move, more))) ≡ true
      by true f = simp f
      by false f = simp f p.bad

  coded_told : (full : Bool) (s : List ℕ) (x : Number) → entry_passes test (coded full s x) ≡ true
  unfolding coded entry_passes
  coded_told full s None = p.bad
  coded_told full s (Some (code, size)) = by (eqb code 2) full (is_code code) refl refl refl
    where
      by : (t u v : Bool) → eqb code 2 ≡ t → full ≡ u → is_code code ≡ v → entry_passes test (coded full s (Some (code, size))) ≡ true
      by true true v e f g = simp (e, f) p.full
      by true false v e f g = simp (e, f) (moved_told size (read_number (drop size s)))
      by false u true e f g = simp (e, g)
      by false u false e f g = simp (e, g) p.bad

  action_told : (bs : List ℕ) (x : Acts) → acts_passes test x ≡ true → acts_passes test (put_action bs x) ≡ true
  unfolding put_action acts_passes
  action_told bs (halted k) e = e
  action_told bs (acts cs) e = refl

  next_told : (x : Result Entry ℕ) (left : ℕ) (s : List ℕ) (go : ℕ → List ℕ → Acts) → entry_passes test x ≡ true
      → ((l : ℕ) (t : List ℕ) → acts_passes test (go l t) ≡ true) → acts_passes test (next_action x left s go) ≡ true
  unfolding next_action entry_passes acts_passes
  next_told (Ok (Move move size)) left s go e h = action_told (fields 1 0 move) (go (left - 1) (drop size s)) (h (left - 1) (drop size s))
  next_told (Ok (Plain code size)) left s go e h = action_told (fields (code / 2) (code % 2) 0) (go left (drop size s)) (h left (drop size s))
  next_told (Err k) left s go e h = e

  actions_told : (n left : ℕ) (s : List ℕ) → acts_passes test (read_actions n left s) ≡ true
  unfolding read_actions acts_passes
  actions_told zero left [] = refl
  actions_told zero left (b ∷ bs) = p.bad
  actions_told (suc n) left s =
      next_told (read_entry (eqb left 0) s) left s (λ l t. read_actions n l t) (coded_told (eqb left 0) s (read_number s)) (λ l t. actions_told n l t)

  -- ---- the roll

  with_actions_told : (xs : Start) (n : ℕ) (x : Acts) → acts_passes test x ≡ true → roll_passes test (with_actions xs n x) ≡ true
  unfolding with_actions roll_passes acts_passes
  with_actions_told xs n (halted k) e = e
  with_actions_told xs n (acts bs) e = refl

  with_count_told : (L : Limits) (xs : Start) (x : Number) (s : List ℕ) → roll_passes test (with_count L xs x s) ≡ true
  unfolding with_count roll_passes
  with_count_told L xs None s = p.bad
  with_count_told L xs (Some (n, size)) s = by (leb n L.most_actions) refl
    where
      by : (t : Bool) → leb n L.most_actions ≡ t → roll_passes test (with_count L xs (Some (n, size)) s) ≡ true
      by true f = simp f (with_actions_told xs n (read_actions n L.most_moves (drop size s)) (actions_told n L.most_moves (drop size s)))
      by false f = simp f p.full

  with_counts_told : (L : Limits) (xs : List ℕ) (x : Counters) (s : List ℕ) → counters_pass test x ≡ true → roll_passes test (with_counts L xs x s) ≡ true
  unfolding with_counts counters_pass roll_passes
  with_counts_told L xs (Err k) s e = e
  with_counts_told L xs (Ok (half, full, size)) s e =
      with_count_told L (record { numbers = xs; half = half; full = full }) (read_number (drop size s)) (drop size s)

  with_front_told : (counted : Bool) (L : Limits) (x : Front) → front_passes test x ≡ true → roll_passes test (with_front counted L x) ≡ true
  unfolding with_front front_passes roll_passes
  with_front_told counted L (stopped k) e = e
  with_front_told counted L (front xs s) e = with_counts_told L xs (read_counters counted s) s (counters_told counted s)

  pub roll_passes_fact : (counted : Bool) (L : Limits) (s : List ℕ) → roll_passes test (read_by counted L s) ≡ true
  unfolding read_by
  roll_passes_fact counted L s = with_front_told counted L (read_numbers largest_numbers s) (numbers_told largest_numbers s)

-- what is not a refusal with 0
unfoldable pub told : ℕ → Bool
told k = not (eqb k 0)

unfoldable pub roll_told : Rolled → Bool
roll_told x = roll_passes told x

told_passes : Passes told
unfolding told
told_passes = record { range = refl; full = refl; bad = refl }

pub roll_told_lem : (counted : Bool) (L : Limits) (s : List ℕ) → roll_told (read_by counted L s) ≡ true
unfolding roll_told
roll_told_lem counted L s = roll_passes_fact told told_passes counted L s

pub judged_told : (counted : Bool) (L : Limits) (s : List ℕ) (room : ℕ) → roll_told (judged_by counted L s room) ≡ true
unfolding judged_by roll_told roll_passes told
judged_told counted L s room = by (ltb room (actions_length L)) refl
  where
    by : (t : Bool) → ltb room (actions_length L) ≡ t → roll_told (judged_by counted L s room) ≡ true
    by true f = simp f
    by false f = simp f (roll_told_lem counted L s)

-- what is answered with 0 was read
pub record IsRolled (x : Rolled) : Type 0 where
  pub start : Start
  pub count : ℕ
  pub actions : List ℕ
  pub is : x ≡ rolled start count actions

pub accepted_rolled : (x : Rolled) → roll_told x ≡ true → (roll_answer x).number ≡ 0 → IsRolled x
unfolding roll_told roll_passes told roll_answer
accepted_rolled (refusal k) e z = absurd (false≢true (sym (ap not (eq-eqb k 0 z)) ∙ e))
accepted_rolled (rolled xs n bs) e z = record { start = xs; count = n; actions = bs; is = refl }

-- ---- what `?` hands on where there is nothing

pub refusal_is : {T : Type 0} {o : Option T} {k e : ℕ} → Err k ≡ ok_or o e → o ≡ None → k ≡ e
refusal_is {T = T} {k = k} {e = e} r n = let z : ◌≡◌ {A = Result T ℕ} (Err k) (Err e) = r ∙ ap (λ (p : Option T). ok_or p e) n in cc
