-- The record's numbers at the front of a roll: each that is in range is one byte.
-- Assumes nothing.
use mathlib.Core.Path.{◌≡◌, refl, ap, ap₂, sym, ◌∙◌}
use mathlib.Core.Bool.{Bool, true, false}
use mathlib.Core.List.{List, [], ◌∷◌, ◌++◌}
use Prim.Native.Nat.{ℕ, suc, ◌+◌, ◌≤◌, ◌<◌}
use native.Mathlib.Numerals.{add-one}
use native.Mathlib.Omega.{arith}
use lib.Dec.{leb}
use lib.ListN.{length, take, drop, get_or, take-append-drop, drop_of_length-le}
use lib.Seq.{drop-cons, drop-drop}
use borrow.Author.Tests.{le-leb, lt-leb, leb-true, leb-false}
use Rattle.std.specs.Prelude.{Some, None, Result, Ok, Err}
use Rattle.answer.specs.Answer.{bad_roll, out_of_range}
use Rattle.answer.specs.Numbers.{all_at_most}
use Rattle.answer.proofs.Numbers.{most_head, most_tail}
use Rattle.answer.proofs.Bounds.{bound_at}
use Rattle.board_builder.specs.BoardBuilder.{numbers_in_range}
use Rattle.roll_text.specs.Number.{Number, read_number}
use Rattle.roll_text.specs.Roll.{Front, stopped, front, largest_numbers, numbers_text, put_number, one_number, read_numbers}
use Rattle.roll_text.specs.Calls.{front_number}
use Rattle.roll_reader.specs.CodeWalk.{front_check, stage_number}
use Rattle.roll_text.proofs.Numbers.{small_one}
use Rattle.roll_text.proofs.Back.{numbers_back, small_bounds}
use Rattle.roll_text.proofs.Plain.{start_numbers_lem}
use Rattle.roll_text.proofs.Bounds.{bounds_are_the_records, long_bounds}

number_put : (x : ℕ) (f : Front) → front_check (put_number x f) ≡ front_check f
unfolding front_check put_number
number_put x (stopped k) = refl
number_put x (front xs rest) = refl

one_at : (m : ℕ) (ms s : List ℕ) → read_numbers (m ∷ ms) s ≡ one_number m (read_number s) s (λ t. read_numbers ms t)
unfolding read_numbers
one_at m ms s = refl

one_within : (m n size : ℕ) (s : List ℕ) (go : List ℕ → Front) → n ≤ m → one_number m (Some (n, size)) s go ≡ put_number n (go (drop size s))
unfolding one_number
one_within m n size s go h = simp (le-leb _ _ h)

one_over : (m n size : ℕ) (s : List ℕ) (go : List ℕ → Front) → m < n → one_number m (Some (n, size)) s go ≡ stopped out_of_range
unfolding one_number
one_over m n size s go h = simp (lt-leb _ _ h)

one_bad : (m : ℕ) (s : List ℕ) (go : List ℕ → Front) → one_number m None s go ≡ stopped bad_roll
unfolding one_number
one_bad m s go = refl

put_front : (x : ℕ) (xs rest : List ℕ) → put_number x (front xs rest) ≡ front (x ∷ xs) rest
unfolding put_number
put_front x xs rest = refl

number_stopped : (k : ℕ) → front_check (stopped k) ≡ Err k
unfolding front_check
number_stopped k = refl

err_not_ok : {k : ℕ} → ◌≡◌ {A = Result (Unit {0}) ℕ} (Err k) (Ok tt) → ⊥
err_not_ok e = let z : ◌≡◌ {A = ℕ} 0 1 = cc in omega arith

-- the number that the calls tell is the stage's own
pub front_told : (r : Result (Unit {0}) ℕ) (f : Front) → r ≡ front_check f → (r ≡ front_check f) × (stage_number r ≡ front_number f)
unfolding front_check front_number
front_told r (stopped k) e = (e, ap stage_number e)
front_told r (front xs s) e = (e, ap stage_number e)

-- ---- an iteration of the loop over the numbers

module _ (i : ℕ) (s t : List ℕ) (x : Number) (h : i < 68) (rest : t ≡ drop i s) (is : x ≡ read_number t) where
  on : (y : Number) (most : ℕ) → most ≡ get_or largest_numbers i 0 → x ≡ y → read_numbers (drop i largest_numbers) (drop i s)
      ≡ one_number most y (drop i s) (λ u. read_numbers (drop (suc i) largest_numbers) u)
  on y most bound e =
      let n : read_number (drop i s) ≡ y = sym (is ∙ ap read_number rest) ∙ e in
      ap (λ (l : List ℕ). read_numbers l (drop i s)) (drop-cons largest_numbers i 0 (omega (arith, long_bounds)))
      ∙ one_at (get_or largest_numbers i 0) (drop (suc i) largest_numbers) (drop i s)
      ∙ rw (n, ← bound)

  pub number_turn : (most n size : ℕ) (total : Result (Unit {0}) ℕ) → most ≡ get_or largest_numbers i 0 → x ≡ Some (n, size) → n ≤ most
      → total ≡ front_check (read_numbers (drop i largest_numbers) (drop i s))
      → total ≡ front_check (read_numbers (drop (i + 1) largest_numbers) (drop (i + 1) s))
  number_turn most n size total bound e l f =
      let b : get_or largest_numbers i 0 ≤ 12 = bound_at 12 largest_numbers i small_bounds in
      let one : size ≡ 1 = (small_one 5 (drop i s) n size (sym (is ∙ ap read_number rest) ∙ e) (omega arith)).0 in
      let d : drop size (drop i s) ≡ drop (suc i) s = ap (λ (j : ℕ). drop j (drop i s)) one ∙ drop-drop 1 i s ∙ ap (λ (j : ℕ). drop j s) (add-one i) in
      f
      ∙ ap front_check (on (Some (n, size)) most bound e ∙ one_within most n size (drop i s) (λ u. read_numbers (drop (suc i) largest_numbers) u) l)
      ∙ number_put n (read_numbers (drop (suc i) largest_numbers) (drop size (drop i s)))
      ∙ rw (d, add-one i)

  pub number_over : (most n size : ℕ) (total : Result (Unit {0}) ℕ) → most ≡ get_or largest_numbers i 0 → x ≡ Some (n, size) → most < n
      → total ≡ front_check (read_numbers (drop i largest_numbers) (drop i s))
      → Err out_of_range ≡ total
  number_over most n size total bound e l f =
      sym (f ∙ ap front_check (on (Some (n, size)) most bound e ∙ one_over most n size (drop i s) (λ u. read_numbers (drop (suc i) largest_numbers) u) l) ∙
      number_stopped out_of_range)

  pub number_bad : (total : Result (Unit {0}) ℕ) → x ≡ None → total ≡ front_check (read_numbers (drop i largest_numbers) (drop i s)) → Err bad_roll ≡ total
  number_bad total e f =
      let most : ℕ = get_or largest_numbers i 0 in
      sym (f ∙ ap front_check (on None most refl e ∙ one_bad most (drop i s) (λ u. read_numbers (drop (suc i) largest_numbers) u)) ∙ number_stopped bad_roll)

pub numbers_end : (i : ℕ) (total : Result (Unit {0}) ℕ) (s : List ℕ)
    → 68 ≤ i → total ≡ front_check (read_numbers (drop i largest_numbers) (drop i s)) → Ok tt ≡ total
unfolding read_numbers front_check
numbers_end i total s h e = sym (e ∙ ap (λ (l : List ℕ). front_check (read_numbers l (drop i s))) (drop_of_length-le largest_numbers {i = i} (omega
    (arith, long_bounds))))

-- ---- a record in range at the front

pub record_there : (s t : List ℕ) → t ≡ take 68 s → numbers_in_range t ≡ true → Ok tt ≡ front_check (read_numbers largest_numbers s)
unfolding front_check
record_there s t f e =
    let w = bounds_are_the_records t ∙ e in
    let b = numbers_back largest_numbers t (drop 68 s) small_bounds w in
    let whole : s ≡ numbers_text t ++ drop 68 s = sym (ap (λ (l : List ℕ). l ++ drop 68 s) (start_numbers_lem t e ∙ f) ∙ take-append-drop 68 s) in
    sym (ap front_check (ap (read_numbers largest_numbers) whole ∙ b))

-- ---- what passes is the bytes themselves

pub record Passed (ms s : List ℕ) : Type 0 where
  pub is : read_numbers ms s ≡ front (take (length ms) s) (drop (length ms) s)
  pub long : length ms ≤ length s

no_stop : {P : Type 0} (k : ℕ) → front_check (stopped k) ≡ Ok tt → P
no_stop k e = absurd (err_not_ok (sym (number_stopped k) ∙ e))

passed : (ms s : List ℕ) → all_at_most 12 ms ≡ true → front_check (read_numbers ms s) ≡ Ok tt → Passed ms s
unfolding read_numbers
passed [] s small e = record { is = refl; long = omega arith }
passed (m ∷ ms) s small e = by (read_number s) refl (λ t. passed ms t (most_tail 12 m ms small))
  where
    by : (x : Number) → read_number s ≡ x → ((t : List ℕ) → front_check (read_numbers ms t) ≡ Ok tt → Passed ms t) → Passed (m ∷ ms) s
    by None f rec = no_stop bad_roll (sym (ap front_check (one_at m ms s ∙ ap (λ (y : Number). one_number m y s (λ t. read_numbers ms t)) f
        ∙ one_bad m s (λ t. read_numbers ms t))) ∙ e)
    by (Some (n, size)) f rec = within (leb n m) refl
      where
        within : (b : Bool) → leb n m ≡ b → Passed (m ∷ ms) s
        within true g =
            let h = leb-true n m g in
            let l : m ≤ 12 = most_head 12 m ms small in
            let o = small_one 5 s n size f (omega arith) in
            let d : drop size s ≡ drop 1 s = ap (λ (j : ℕ). drop j s) o.0 in
            let a : read_numbers (m ∷ ms) s ≡ put_number n (read_numbers ms (drop 1 s)) =
            one_at m ms s ∙ ap (λ (y : Number). one_number m y s (λ t. read_numbers ms t)) f ∙ one_within m n size s (λ t. read_numbers ms t) h ∙ ap (λ (t
            : List ℕ). put_number n (read_numbers ms t)) d in
            let r = rec (drop 1 s) (sym (number_put n (read_numbers ms (drop 1 s))) ∙ sym (ap front_check a) ∙ e) in
            let b : put_number n (front (take (length ms) (drop 1 s)) (drop (length ms) (drop 1 s))) ≡ front (take (suc (length ms)) s) (drop (suc
            (length ms)) s) =
            put_front n (take (length ms) (drop 1 s)) (drop (length ms) (drop 1 s))
            ∙ ap₂ (λ (p q : List ℕ). front p q) (ap (take (suc (length ms))) (sym o.1)) (ap (drop (suc (length ms))) (sym o.1)) in
            record { is = a ∙ ap (put_number n) r.is ∙ b; long = omega (arith, r.long, ap length o.1) }
        within false g =
            no_stop out_of_range (sym (ap front_check (one_at m ms s ∙ ap (λ (y : Number). one_number m y s (λ t. read_numbers ms t)) f
            ∙ one_over m n size s (λ t. read_numbers ms t) (leb-false n m g))) ∙ e)

pub start_passed : (s : List ℕ) → front_check (read_numbers largest_numbers s) ≡ Ok tt → (read_numbers largest_numbers s ≡ front (take 68 s) (drop 68 s)) × (68
    ≤ length s)
start_passed s e =
    let p = passed largest_numbers s small_bounds e in
    (p.is ∙ rw long_bounds, omega (arith, p.long, long_bounds))
