-- The reader's answers, by the stage that gives them.
-- Assumes nothing.
use mathlib.Core.Path.{◌≡◌, refl, ap, sym, ◌∙◌}
use mathlib.Core.Bool.{Bool, true, false}
use mathlib.Core.List.{List}
use Prim.Native.Nat.{ℕ, ◌+◌, ◌≤◌, ◌<◌}
use native.Mathlib.Omega.{arith}
use lib.ListN.{length, take, drop}
use lib.Seq.{take-take, get_or-take}
use borrow.Author.Tests.{lt-ltb, le-ltb, le-leb, lt-leb, leb-true, eq-eqb, ne_eqb}
use Rattle.std.specs.Prelude.{Some, None, Ok, Err}
use Rattle.answer.specs.Answer.{bad_roll, log_full, out_of_range, part_too_short}
use Rattle.board_builder.specs.declared.BoardBuilder.{BoardBuilder}
use Rattle.board_builder.specs.BoardBuilder.{record_size, board_of, with_counters, last_count}
use Rattle.game_rules.specs.Limits.{Limits, limits, actions_length}
use Rattle.roll_text.specs.declared.Roll.{Roll}
use Rattle.roll_text.specs.Number.{Number, read_number}
use Rattle.roll_text.specs.Roll.{Counters, Start, Front, stopped, front, Acts, halted, acts, Rolled, refusal, largest_numbers}
use Rattle.roll_text.specs.Roll.{read_numbers, read_actions, with_actions, with_count, with_counts, with_front}
use Rattle.roll_text.specs.Roll.{read_by}
use Rattle.roll_text.specs.Roll.{full_by, half_by, read_counters, start_board}
use Rattle.roll_text.specs.Calls.{acts_over, is_acts, roll_answer, roll_over, judged_by}
use Rattle.roll_reader.specs.CodeWalk.{front_check, acts_check, start_with}
use Rattle.roll_reader.specs.CodeStart.{start_long, Started}
use Rattle.roll_reader.proofs.Fronts.{start_passed}

-- ---- a refusal leaves the part as it is

pub over_refusal : (x : Rolled) (k : ℕ) (part : List ℕ) → x ≡ refusal k → part ≡ roll_over x part
unfolding roll_over
over_refusal x k part e = rw e refl

-- ---- 16

pub short_part : (counted : Bool) (s : List ℕ) (room : ℕ) → room < actions_length limits → judged_by counted limits s room ≡ refusal part_too_short
unfolding judged_by
short_part counted s room h = simp (lt-ltb _ _ h)

pub long_part : (counted : Bool) (s : List ℕ) (room : ℕ) → actions_length limits ≤ room → judged_by counted limits s room ≡ read_by counted limits s
unfolding judged_by
long_part counted s room h = simp (le-ltb _ _ h)

-- ---- the counters

pub old_counters : (counted : Bool) (s : List ℕ) → counted ≡ false → Ok (0, 1, 0) ≡ read_counters counted s
unfolding read_counters
old_counters counted s e = rw e refl

module _ (counted : Bool) (s : List ℕ) (first : Number) (new : counted ≡ true) (is : first ≡ read_number s) where
  on : (x : Number) → first ≡ x → read_counters counted s ≡ half_by s x
  unfolding read_counters
  on x e = rw new (ap (half_by s) (sym is ∙ e))

  pub no_half : first ≡ None → Err bad_roll ≡ read_counters counted s
  unfolding half_by
  no_half e = sym (on None e)

  module _ (half size : ℕ) (e : first ≡ Some (half, size)) where
    pub over_half : last_count < half → Err out_of_range ≡ read_counters counted s
    unfolding half_by
    over_half h = sym (on (Some (half, size)) e ∙ simp (lt-leb _ _ h))

    module _ (h : half ≤ last_count) (t : List ℕ) (second : Number) (left : t ≡ drop size s) (reads : second ≡ read_number t) where
      behind : (x : Number) → second ≡ x → read_counters counted s ≡ full_by half size x
      unfolding half_by
      behind x f = on (Some (half, size)) e ∙ simp (le-leb _ _ h) (ap (full_by half size) (sym (reads ∙ ap read_number left) ∙ f))

      pub no_full : second ≡ None → Err bad_roll ≡ read_counters counted s
      unfolding full_by
      no_full f = sym (behind None f)

      module _ (full more : ℕ) (f : second ≡ Some (full, more)) where
        pub zero_full : full ≡ 0 → Err out_of_range ≡ read_counters counted s
        unfolding full_by
        zero_full z = sym (behind (Some (full, more)) f ∙ simp (eq-eqb _ _ z))

        pub over_full : (full ≡ 0 → ⊥) → last_count < full → Err out_of_range ≡ read_counters counted s
        unfolding full_by
        over_full z k = sym (behind (Some (full, more)) f ∙ simp (ne_eqb _ _ z, lt-leb _ _ k))

        pub both_counters : (full ≡ 0 → ⊥) → full ≤ last_count → Ok (half, full, size + more) ≡ read_counters counted s
        unfolding full_by
        both_counters z k = sym (behind (Some (full, more)) f ∙ simp (ne_eqb _ _ z, le-leb _ _ k))

-- ---- the start

front_refused : (counted : Bool) (L : Limits) (f : Front) (k : ℕ) → front_check f ≡ Err k → with_front counted L f ≡ refusal k
unfolding with_front front_check
front_refused counted L (stopped j) k h = let e : j ≡ k = cc in ap refusal e
front_refused counted L (front xs s) k h = let z : ◌≡◌ {A = ℕ} 0 1 = cc in absurd (omega arith)

pub bad_record : (counted : Bool) (s : List ℕ) (k : ℕ) → front_check (read_numbers largest_numbers s) ≡ Err k → Started counted s (Err k)
unfolding read_by with_counts start_long
bad_record counted s k e = record { reads = λ L. front_refused counted L (read_numbers largest_numbers s) k e; long = refl }

start_long_lem : (s : List ℕ) (x : Counters) → record_size ≤ length s → start_long s x ≡ true
unfolding start_long
start_long_lem s (Ok (half, full, size)) h = le-leb _ _ h
start_long_lem s (Err k) h = refl

pub good_record : (counted : Bool) (s behind : List ℕ) (x : Counters) → front_check (read_numbers largest_numbers s) ≡ Ok tt
    → behind ≡ drop 68 s → x ≡ read_counters counted behind → Started counted s x
unfolding read_by with_front
good_record counted s behind x e rest is =
    let (f, long) = start_passed s e in
    record {
      reads = λ L. ap (with_front counted L) f
          ∙ ap (λ (y : Counters). with_counts L (take 68 s) y (drop 68 s)) (sym (is ∙ ap (read_counters counted) rest));
      long = start_long_lem s x long;
    }

pub bad_start : (counted : Bool) (s : List ℕ) (k : ℕ) (x : Counters) → Started counted s x → x ≡ Err k → read_by counted limits s ≡ refusal k
unfolding with_counts
bad_start counted s k x st e = st.reads limits ∙ ap (λ (y : Counters). with_counts limits (take 68 s) y (drop 68 s)) e

-- ---- the count

module _ (counted : Bool) (s first behind : List ℕ) (start : Counters) (count : Number) (half full size : ℕ)
    (st : Started counted s start) (is : start ≡ Ok (half, full, size)) (left : first ≡ drop 68 s) (rest : behind ≡ drop size first)
    (reads : count ≡ read_number behind) where
  there : behind ≡ drop size (drop 68 s)
  there = rest ∙ ap (drop size) left

  at_count : (x : Number) → count ≡ x → read_by counted limits s ≡ with_count limits (start_with s half full) x (drop size (drop 68 s))
  unfolding with_counts
  at_count x f =
      st.reads limits
      ∙ ap (λ (y : Counters). with_counts limits (take 68 s) y (drop 68 s)) is
      ∙ ap (λ (y : Number). with_count limits (start_with s half full) y (drop size (drop 68 s))) (sym (reads ∙ ap read_number there) ∙ f)

  pub record_long : 68 ≤ length s
  unfolding start_long
  record_long = leb-true 68 (length s) (sym (ap (start_long s) is) ∙ st.long)

  pub no_count : count ≡ None → read_by counted limits s ≡ refusal bad_roll
  unfolding with_count
  no_count f = at_count None f

  pub over_count : (n more : ℕ) → count ≡ Some (n, more) → limits.most_actions < n → read_by counted limits s ≡ refusal log_full
  unfolding with_count
  over_count n more f k = at_count (Some (n, more)) f ∙ simp (lt-leb _ _ k)

  pub at_actions : (n more : ℕ) (text : List ℕ) → count ≡ Some (n, more) → n ≤ limits.most_actions → text ≡ drop more behind
      → read_by counted limits s ≡ with_actions (start_with s half full) n (read_actions n limits.most_moves text)
  unfolding with_count
  at_actions n more text f k t =
      let d : text ≡ drop more (drop size (drop 68 s)) = t ∙ ap (drop more) there in
      at_count (Some (n, more)) f ∙ simp (le-leb _ _ k, d)

-- ---- the actions

acts_refused : (xs : Start) (n : ℕ) (x : Acts) (k : ℕ) → acts_check x ≡ Err k → with_actions xs n x ≡ refusal k
unfolding with_actions acts_check
acts_refused xs n (halted j) k h = let e : j ≡ k = cc in ap refusal e
acts_refused xs n (acts bs) k h = let z : ◌≡◌ {A = ℕ} 0 1 = cc in absurd (omega arith)

pub bad_actions : (x : Rolled) (xs : Start) (n k : ℕ) (a : Acts) → x ≡ with_actions xs n a → acts_check a ≡ Err k → x ≡ refusal k
bad_actions x xs n k a e f = e ∙ acts_refused xs n a k f

pub good_actions : (x : Acts) → acts_check x ≡ Ok tt → is_acts x ≡ true
unfolding acts_check is_acts
good_actions (halted k) e = let z : ◌≡◌ {A = ℕ} 0 1 = cc in absurd (omega arith)
good_actions (acts bs) e = refl

over_acts : (xs : Start) (n : ℕ) (x : Acts) (part : List ℕ) → acts_over x part ≡ roll_over (with_actions xs n x) part
unfolding with_actions acts_over roll_over
over_acts xs n (halted k) part = refl
over_acts xs n (acts bs) part = refl

pub written_over : (x : Rolled) (xs : Start) (n : ℕ) (a : Acts) (part out : List ℕ) → x ≡ with_actions xs n a → out ≡ acts_over a part → out ≡ roll_over x part
written_over x xs n a part out e f = f ∙ over_acts xs n a part ∙ ap (λ (y : Rolled). roll_over y part) (sym e)

answer_acts : (xs : Start) (n : ℕ) (x : Acts) → is_acts x ≡ true → roll_answer (with_actions xs n x)
    ≡ record { number = 0; actions = n; board = start_board xs }
unfolding with_actions is_acts roll_answer
answer_acts xs n (halted k) e = let z : ◌≡◌ {A = ℕ} 0 1 = cc in absurd (omega arith)
answer_acts xs n (acts bs) e = refl

board_front : (s : List ℕ) → board_of s ≡ board_of (take 68 s)
board_front s =
    let a : take 64 (take 68 s) ≡ take 64 s = take-take 64 68 s (omega arith) in
    simp (a, get_or-take 68 s 64 0 (omega arith), get_or-take 68 s 65 0 (omega arith), get_or-take 68 s 66 0 (omega arith), get_or-take 68 s 67 0 (omega arith))

pub roll_answer_lem : (x : Rolled) (s : List ℕ) (half full n : ℕ) (a : Acts) (b : BoardBuilder) → x ≡ with_actions (start_with s half full) n a
    → is_acts a ≡ true
    → b ≡ with_counters (board_of s) half full → ◌≡◌ {A = Roll} (record { number = 0; actions = n; board = b }) (roll_answer x)
roll_answer_lem x s half full n a b e f g =
    ap (λ (c : BoardBuilder). record { number = 0; actions = n; board = c }) (g ∙ ap (λ (c : BoardBuilder). with_counters c half full) (board_front s))
    ∙ sym (ap roll_answer e ∙ answer_acts (start_with s half full) n a f)
