-- Each accepted roll is a game's, and is written back as it came; so one start with one action list has one roll.
-- Assumes nothing.
use mathlib.Core.Path.{◌≡◌, refl, ap, sym, ◌∙◌}
use mathlib.Core.Bool.{Bool, true, false}
use mathlib.Core.List.{List, [], ◌∷◌, ◌++◌, append_assoc}
use Prim.Native.Nat.{ℕ, zero, suc, ◌+◌, ◌*◌, ◌/◌, ◌%◌, ◌-◌, ◌≤◌}
use native.Mathlib.Omega.{arith}
use lib.Dec.{eqb, leb}
use lib.ListN.{length, drop}
use lib.Seq.{drop-drop}
use borrow.Author.Tests.{le-leb, leb-true, ne_eqb, eqb-true, eqb-false}
use Rattle.std.specs.Prelude.{Some, None, Result, Ok, Err}
use Rattle.board_builder.specs.BoardBuilder.{last_count, counters_in_range}
use Rattle.board_builder.proofs.Ranges.{counters_hold}
use Rattle.answer.specs.Numbers.{all_at_most}
use Rattle.answer.specs.Answer.{out_of_range, log_full, bad_roll}
use Rattle.answer.proofs.Numbers.{most_cons, most_drop}
use Rattle.chess_move.specs.Number.{last_move}
use Rattle.action.specs.Layout.{action_size, fields}
use Rattle.game_rules.specs.Limits.{Limits}
use Rattle.actions.specs.Part.{moves_in, actions_held}
use Rattle.roll_text.specs.declared.Entry.{Entry}
use Rattle.roll_text.specs.declared.Entry.TheVariants.{Move, Plain}
use Rattle.roll_text.specs.Number.{Number, number_text, read_number}
use Rattle.roll_text.specs.Roll.{Counters, Front, stopped, front, Acts, halted}
use Rattle.roll_text.specs.Roll.{Start, start_fits, acts, refusal, rolled, largest_numbers, within_bounds}
use Rattle.roll_text.specs.Roll.{numbers_text, counts_text, action_text, actions_text, text_by}
use Rattle.roll_text.specs.Roll.{is_code, put_number, one_number, read_numbers, moved_by}
use Rattle.roll_text.specs.Roll.{coded, read_entry, put_action, next_action, read_actions}
use Rattle.roll_text.specs.Roll.{with_actions, with_count, with_counts, with_front, read_by, full_by, half_by, read_counters}
use Rattle.roll_text.proofs.ByFields.{move_in_range, action_in_range, actions_in_range, moves_among, held_in_range, as_many_moves}
use Rattle.roll_text.specs.Promises.{formed, WrittenBack, AcceptedWrittenBack, OneRoll, OneGame}
use Rattle.roll_text.proofs.Numbers.{accepted_is_shortest}
use Rattle.roll_text.proofs.Entries.{code_range}
use Rattle.roll_text.proofs.Back.{rolls_read_back}

-- ---- the record's numbers

record Numbered (most : ℕ) (x : Number) (s : List ℕ) (go : List ℕ → Front) (numbers rest : List ℕ) : Type 0 where
  first : ℕ
  size : ℕ
  others : List ℕ
  is : x ≡ Some (first, size)
  within : first ≤ most
  then : go (drop size s) ≡ front others rest
  whole : numbers ≡ first ∷ others

put_number_lem : (x : ℕ) (f : Front) (numbers rest : List ℕ) → put_number x f ≡ front numbers rest
    → (n : ℕ) (s : List ℕ) (go : List ℕ → Front) (most : ℕ) → go (drop n s) ≡ f → x ≤ most → Numbered most (Some (x, n)) s go numbers rest
unfolding put_number
put_number_lem x (stopped k) numbers rest e n s go most g h = let z : ◌≡◌ {A = ℕ} 0 1 = cc in absurd (omega arith)
put_number_lem x (front xs t) numbers rest e n s go most g h =
    let a : numbers ≡ x ∷ xs = cc in
    let b : t ≡ rest = cc in
    record { first = x; size = n; others = xs; is = refl; within = h; then = g ∙ ap (front xs) b; whole = a }

one_number_lem : (most : ℕ) (x : Number) (s : List ℕ) (go : List ℕ → Front) (numbers rest : List ℕ) → one_number most x s go ≡ front numbers rest → Numbered
    most x s go numbers rest
unfolding one_number
one_number_lem most None s go numbers rest e = let z : ◌≡◌ {A = ℕ} 0 1 = cc in absurd (omega arith)
one_number_lem most (Some (x, size)) s go numbers rest e = by (leb x most) refl
  where
    by : (t : Bool) → leb x most ≡ t → Numbered most (Some (x, size)) s go numbers rest
    by true f = put_number_lem x (go (drop size s)) numbers rest (simp f at e) size s go most refl (leb-true x most f)
    by false f =
        let g : stopped out_of_range ≡ front numbers rest = simp f at e in
        let z : ◌≡◌ {A = ℕ} 0 1 = cc in absurd (omega arith)

pub record Fronted (ms s numbers rest : List ℕ) : Type 0 where
  pub within : within_bounds ms numbers ≡ true
  pub text : s ≡ numbers_text numbers ++ rest
  pub bytes : all_at_most 255 rest ≡ true

pub numbers_forth : (ms s numbers rest : List ℕ) → all_at_most 255 s ≡ true → read_numbers ms s ≡ front numbers rest → Fronted ms s numbers rest
unfolding read_numbers within_bounds numbers_text
numbers_forth [] s numbers rest small e =
    let a : numbers ≡ [] = cc in
    let b : rest ≡ s = cc in
    rw (a, b) (record { within = refl; text = refl; bytes = small })
numbers_forth (m ∷ ms) s numbers rest small e =
    let o = one_number_lem m (read_number s) s (λ t. read_numbers ms t) numbers rest e in
    let p = accepted_is_shortest s o.first o.size small o.is in
    let r = numbers_forth ms (drop o.size s) o.others rest (most_drop o.size 255 s small) o.then in
    rw o.whole
    (record {
      within = simp (le-leb _ _ o.within) r.within;
      text = p.text ∙ ap (λ (l : List ℕ). number_text o.first ++ l) r.text ∙ sym (append_assoc (number_text o.first) (numbers_text o.others) rest);
      bytes = r.bytes;
    })

-- ---- the counters

record FullBy (size : ℕ) (x : Number) (full all : ℕ) : Type 0 where
  more : ℕ
  is : x ≡ Some (full, more)
  least : 1 ≤ full
  most : full ≤ last_count
  whole : all ≡ size + more

-- the clock is the one that was read
-- the same counters in as many bytes
counted_same : {half full size clock number all : ℕ} → ◌≡◌ {A = Counters} (Ok (half, full, size)) (Ok (clock, number, all))
    → (half ≡ clock) × (full ≡ number) × (size ≡ all)
counted_same {half = half} {full = full} {size = size} {clock = clock} {number = number} {all = all} e =
    let p : ◌≡◌ {A = ℕ × ℕ × ℕ} (half, full, size) (clock, number, all) = cc in
    (ap (λ (x : ℕ × ℕ × ℕ). x.0) p, ap (λ (x : ℕ × ℕ × ℕ). x.1) p, ap (λ (x : ℕ × ℕ × ℕ). x.2) p)

full_by_lem : (half size : ℕ) (x : Number) (clock full all : ℕ) → full_by half size x ≡ Ok (clock, full, all) → (half ≡ clock) × FullBy size x full all
unfolding full_by
full_by_lem half size None clock full all e = let z : ◌≡◌ {A = ℕ} 0 1 = cc in absurd (omega arith)
full_by_lem half size (Some (f, more)) clock full all e = by (eqb f 0) (leb f last_count) refl refl
  where
    by : (t u : Bool) → eqb f 0 ≡ t → leb f last_count ≡ u → (half ≡ clock) × FullBy size (Some (f, more)) full all
    by true u p q =
        let g : ◌≡◌ {A = Counters} (Err out_of_range) (Ok (clock, full, all)) = simp p at e in
        let z : ◌≡◌ {A = ℕ} 0 1 = cc in absurd (omega arith)
    by false false p q =
        let g : ◌≡◌ {A = Counters} (Err out_of_range) (Ok (clock, full, all)) = simp (p, q) at e in
        let z : ◌≡◌ {A = ℕ} 0 1 = cc in absurd (omega arith)
    by false true p q =
        let g : ◌≡◌ {A = Counters} (Ok (half, f, size + more)) (Ok (clock, full, all)) = simp (p, q) at e in
        let (c, a, over) = counted_same g in
        let b : all ≡ size + more = sym over in
        let some = eqb-false f 0 p in
        let h = leb-true f last_count q in
        (c, record { more = more; is = ap (λ (i : ℕ). Some (i, more)) a; least = omega (arith, a, some); most = omega (arith, a, h); whole = b })

record HalfBy (s : List ℕ) (x : Number) (half full all : ℕ) : Type 0 where
  size : ℕ
  is : x ≡ Some (half, size)
  most : half ≤ last_count
  number : FullBy size (read_number (drop size s)) full all

half_by_lem : (s : List ℕ) (x : Number) (half full all : ℕ) → half_by s x ≡ Ok (half, full, all) → HalfBy s x half full all
unfolding half_by
half_by_lem s None half full all e = let z : ◌≡◌ {A = ℕ} 0 1 = cc in absurd (omega arith)
half_by_lem s (Some (h, size)) half full all e = by (leb h last_count) refl
  where
    by : (t : Bool) → leb h last_count ≡ t → HalfBy s (Some (h, size)) half full all
    by true p =
        let (a, f) = full_by_lem h size (read_number (drop size s)) half full all (simp p at e) in
        record { size = size; is = ap (λ (i : ℕ). Some (i, size)) a; most = omega (arith, a, leb-true h last_count p); number = f }
    by false p =
        let g : ◌≡◌ {A = Counters} (Err out_of_range) (Ok (half, full, all)) = simp p at e in
        let z : ◌≡◌ {A = ℕ} 0 1 = cc in absurd (omega arith)

record CountersForth (counted : Bool) (s : List ℕ) (st : Start) (size : ℕ) : Type 0 where
  counters : counters_in_range st.half st.full ≡ true
  form : formed counted st ≡ true
  text : s ≡ counts_text counted st ++ drop size s

counters_forth : (counted : Bool) (s : List ℕ) (st : Start) (size : ℕ) → all_at_most 255 s ≡ true
    → read_counters counted s ≡ Ok (st.half, st.full, size) → CountersForth counted s st size
unfolding read_counters counts_text formed
counters_forth true s st size small e =
    let o = half_by_lem s (read_number s) st.half st.full size e in
    let m = o.number in
    let p = accepted_is_shortest s st.half o.size small o.is in
    let q = accepted_is_shortest (drop o.size s) st.full m.more (most_drop o.size 255 s small) m.is in
    let d : drop m.more (drop o.size s) ≡ drop size s = drop-drop m.more o.size s ∙ ap (λ (i : ℕ). drop i s) (sym m.whole) in
    record {
      counters = counters_hold st.half st.full (record { half_most = o.most; full_least = m.least; full_most = m.most });
      form = refl;
      text =
          p.text
          ∙ ap (λ (l : List ℕ). number_text st.half ++ l) (q.text ∙ ap (λ (l : List ℕ). number_text st.full ++ l) d)
          ∙ sym (append_assoc (number_text st.half) (number_text st.full) (drop size s));
    }
counters_forth false s st size small e =
    let (zero_half, one_full, no_bytes) = counted_same e in
    let half : st.half ≡ 0 = sym zero_half in
    let full : st.full ≡ 1 = sym one_full in
    let none : size ≡ 0 = sym no_bytes in
    record { counters = rw (half, full) refl; form = rw (half, full) refl; text = rw none refl }

-- ---- an action

record Moved (full : Bool) (s : List ℕ) (move size : ℕ) : Type 0 where
  text : s ≡ (number_text 2 ++ number_text move) ++ drop size s
  last : move ≤ last_move
  room : full ≡ false

record Plained (s : List ℕ) (code size : ℕ) : Type 0 where
  text : s ≡ number_text code ++ drop size s
  is_code_fact : is_code code ≡ true

pub record MovedBy (size : ℕ) (x : Number) (move all : ℕ) : Type 0 where
  pub more : ℕ
  pub is : x ≡ Some (move, more)
  pub last : move ≤ last_move
  pub whole : all ≡ size + more

moved_by_lem : (size : ℕ) (x : Number) (move all : ℕ) → moved_by size x ≡ Ok (Move move all) → MovedBy size x move all
unfolding moved_by
moved_by_lem size None move all e = let z : ◌≡◌ {A = ℕ} 0 1 = cc in absurd (omega arith)
moved_by_lem size (Some (m, more)) move all e = by (leb m last_move) refl
  where
    by : (t : Bool) → leb m last_move ≡ t → MovedBy size (Some (m, more)) move all
    by true f =
        let g : Ok (Move m (size + more)) ≡ Ok (Move move all) = simp f at e in
        let a : m ≡ move = cc in
        let b : all ≡ size + more = cc in
        record { more = more; is = ap (λ (i : ℕ). Some (i, more)) a; last = omega (arith, leb-true m last_move f); whole = b }
    by false f =
        let g : Err bad_roll ≡ Ok (Move move all) = simp f at e in
        let z : ◌≡◌ {A = ℕ} 0 1 = cc in absurd (omega arith)

moved_plain : (size : ℕ) (x : Number) (code all : ℕ) → moved_by size x ≡ Ok (Plain code all) → ⊥
unfolding moved_by
moved_plain size None code all e = let z : ◌≡◌ {A = ℕ} 0 1 = cc in omega arith
moved_plain size (Some (m, more)) code all e = by (leb m last_move) refl
  where
    by : (t : Bool) → leb m last_move ≡ t → ⊥
    by true f =
        let g : Ok (Move m (size + more)) ≡ Ok (Plain code all) = simp f at e in
        let z : ◌≡◌ {A = ℕ} 0 1 = cc in omega arith
    by false f =
        let g : Err bad_roll ≡ Ok (Plain code all) = simp f at e in
        let z : ◌≡◌ {A = ℕ} 0 1 = cc in omega arith

-- both tests of an entry's code
pub record CodedMove (full : Bool) (s : List ℕ) (x : Number) (move all : ℕ) : Type 0 where
  pub size : ℕ
  pub is : x ≡ Some (2, size)
  pub room : full ≡ false
  pub number : MovedBy size (read_number (drop size s)) move all

pub coded_move : (full : Bool) (s : List ℕ) (x : Number) (move all : ℕ) → coded full s x ≡ Ok (Move move all) → CodedMove full s x move all
unfolding coded
coded_move full s None move all e = let z : ◌≡◌ {A = ℕ} 0 1 = cc in absurd (omega arith)
coded_move full s (Some (code, size)) move all e = by full (eqb code 2) (is_code code) refl refl refl
  where
    by : (f t u : Bool) → full ≡ f → eqb code 2 ≡ t → is_code code ≡ u → CodedMove full s (Some (code, size)) move all
    by true true u p q r =
        let g : Err log_full ≡ Ok (Move move all) = simp (p, q) at e in
        let z : ◌≡◌ {A = ℕ} 0 1 = cc in absurd (omega arith)
    by false true u p q r =
        let g : moved_by size (read_number (drop size s)) ≡ Ok (Move move all) = simp (p, q) at e in
        record {
          size = size;
          is = ap (λ (i : ℕ). Some (i, size)) (eqb-true code 2 q);
          room = p;
          number = moved_by_lem size (read_number (drop size s)) move all g;
        }
    by f false true p q r =
        let g : Ok (Plain code size) ≡ Ok (Move move all) = simp (q, r) at e in
        let z : ◌≡◌ {A = ℕ} 0 1 = cc in absurd (omega arith)
    by f false false p q r =
        let g : Err bad_roll ≡ Ok (Move move all) = simp (q, r) at e in
        let z : ◌≡◌ {A = ℕ} 0 1 = cc in absurd (omega arith)

pub record CodedPlain (x : Number) (code all : ℕ) : Type 0 where
  pub is : x ≡ Some (code, all)
  pub is_code_fact : is_code code ≡ true

pub coded_plain : (full : Bool) (s : List ℕ) (x : Number) (code all : ℕ) → coded full s x ≡ Ok (Plain code all) → CodedPlain x code all
unfolding coded
coded_plain full s None code all e = let z : ◌≡◌ {A = ℕ} 0 1 = cc in absurd (omega arith)
coded_plain full s (Some (c, size)) code all e = by full (eqb c 2) (is_code c) refl refl refl
  where
    by : (f t u : Bool) → full ≡ f → eqb c 2 ≡ t → is_code c ≡ u → CodedPlain (Some (c, size)) code all
    by true true u p q r =
        let g : Err log_full ≡ Ok (Plain code all) = simp (p, q) at e in
        let z : ◌≡◌ {A = ℕ} 0 1 = cc in absurd (omega arith)
    by false true u p q r =
        let g : moved_by size (read_number (drop size s)) ≡ Ok (Plain code all) = simp (p, q) at e in
        absurd (moved_plain size (read_number (drop size s)) code all g)
    by f false true p q r =
        let g : Ok (Plain c size) ≡ Ok (Plain code all) = simp (q, r) at e in
        let a : c ≡ code = cc in
        let b : Some (c, size) ≡ Some (code, all) = cc in
        record { is = b; is_code_fact = rw a at r }
    by f false false p q r =
        let g : Err bad_roll ≡ Ok (Plain code all) = simp (q, r) at e in
        let z : ◌≡◌ {A = ℕ} 0 1 = cc in absurd (omega arith)

entry_move : (full : Bool) (s : List ℕ) (move size : ℕ) → all_at_most 255 s ≡ true → read_entry full s ≡ Ok (Move move size) → Moved full s move size
entry_move full s move size small e =
    let o = coded_move full s (read_number s) move size e in
    let m = o.number in
    let p = accepted_is_shortest s 2 o.size small o.is in
    let q = accepted_is_shortest (drop o.size s) move m.more (most_drop o.size 255 s small) m.is in
    let d : drop m.more (drop o.size s) ≡ drop size s = drop-drop m.more o.size s ∙ ap (λ (i : ℕ). drop i s) (sym m.whole) in
    record {
      text =
          p.text
          ∙ ap (λ (l : List ℕ). number_text 2 ++ l) (q.text ∙ ap (λ (l : List ℕ). number_text move ++ l) d)
          ∙ sym (append_assoc (number_text 2) (number_text move) (drop size s));
      last = m.last;
      room = o.room;
    }

entry_plain : (full : Bool) (s : List ℕ) (code size : ℕ) → all_at_most 255 s ≡ true → read_entry full s ≡ Ok (Plain code size) → Plained s code size
entry_plain full s code size small e =
    let o = coded_plain full s (read_number s) code size e in
    let p = accepted_is_shortest s code size small o.is in
    record { text = p.text; is_code_fact = o.is_code_fact }

-- ---- the actions

record Told (n left : ℕ) (s bs : List ℕ) : Type 0 where
  text : s ≡ actions_text n bs
  in_range_lem : actions_in_range n bs ≡ true
  few : moves_among n bs ≤ left
  long : length bs ≡ 4 * n
  bytes : all_at_most 255 bs ≡ true

record PutBefore (here bs : List ℕ) (x : Acts) : Type 0 where
  others : List ℕ
  is : x ≡ acts others
  whole : bs ≡ here ++ others

put_action_lem : (here : List ℕ) (x : Acts) (bs : List ℕ) → put_action here x ≡ acts bs → PutBefore here bs x
unfolding put_action
put_action_lem here (halted k) bs e = let z : ◌≡◌ {A = ℕ} 0 1 = cc in absurd (omega arith)
put_action_lem here (acts cs) bs e = let a : bs ≡ here ++ cs = cc in record { others = cs; is = refl; whole = a }

-- an action in front of those that are told
move_told : (n left : ℕ) (s : List ℕ) (move size : ℕ) (others : List ℕ) → Moved (eqb left 0) s move size → Told n (left - 1) (drop size s) others
    → Told (suc n) left s (fields 1 0 move ++ others)
unfolding actions_text action_text actions_in_range action_in_range move_in_range moves_among
move_told n left s move size others m t =
    let same : move % 256 + 256 * (move / 256) ≡ move = omega arith in
    let some : 1 ≤ left = by (eqb-false left 0 m.room) in
    let f = t.few in
    let g = t.long in
    let h : move ≤ last_move = m.last in
    let lo : move % 256 ≤ 255 = omega arith in
    let hi : move / 256 ≤ 255 = omega arith in
    record {
      text = m.text ∙ rw same (ap (λ (l : List ℕ). (number_text 2 ++ number_text move) ++ l) t.text);
      in_range_lem = rw same (simp (le-leb _ _ h) t.in_range_lem);
      few = rw same (simp (le-leb _ _ h) (omega arith));
      long = omega arith;
      bytes =
          most_cons 255 1 (0 ∷ (move % 256) ∷ (move / 256) ∷ others) (omega arith)
          (most_cons 255 0 ((move % 256) ∷ (move / 256) ∷ others) (omega arith)
          (most_cons 255 (move % 256) ((move / 256) ∷ others) lo (most_cons 255 (move / 256) others hi t.bytes)));
    }
  where
    by : (left ≡ 0 → ⊥) → 1 ≤ left
    by h = omega arith

plain_told : (n left : ℕ) (s : List ℕ) (code size : ℕ) (others : List ℕ) → Plained s code size → Told n left (drop size s) others
    → Told (suc n) left s (fields (code / 2) (code % 2) 0 ++ others)
unfolding actions_text action_text actions_in_range action_in_range moves_among
plain_told n left s code size others m t =
    let r = code_range code m.is_code_fact in
    let same : code / 2 * 2 + code % 2 ≡ code = omega arith in
    let not : eqb (code / 2) 1 ≡ false = ne_eqb (code / 2) 1 (λ z. omega arith) in
    let one : leb (code % 2) 1 ≡ true = le-leb (code % 2) 1 (omega arith) in
    let f = t.few in
    let g = t.long in
    let k : code / 2 ≤ 255 = omega arith in
    let c : code % 2 ≤ 255 = omega arith in
    record {
      text = m.text ∙ simp (not, same) (ap (λ (l : List ℕ). number_text code ++ l) t.text);
      in_range_lem = simp (not, one, same, m.is_code_fact) t.in_range_lem;
      few = simp not (omega arith);
      long = omega arith;
      bytes =
          most_cons 255 (code / 2) ((code % 2) ∷ 0 ∷ 0 ∷ others) k
          (most_cons 255 (code % 2) (0 ∷ 0 ∷ others) c
          (most_cons 255 0 (0 ∷ others) (omega arith) (most_cons 255 0 others (omega arith) t.bytes)));
    }

none_told : (left : ℕ) (bs : List ℕ) → bs ≡ [] → Told zero left [] bs
unfolding actions_text actions_in_range moves_among all_at_most
none_told left bs h = rw h (record { text = refl; in_range_lem = refl; few = omega arith; long = refl; bytes = refl })

actions_forth : (n left : ℕ) (s bs : List ℕ) → all_at_most 255 s ≡ true → read_actions n left s ≡ acts bs → Told n left s bs
unfolding read_actions next_action
actions_forth zero left [] bs small e = none_told left bs (cc)
actions_forth zero left (b ∷ s) bs small e = let z : ◌≡◌ {A = ℕ} 0 1 = cc in absurd (omega arith)
actions_forth (suc n) left s bs small e = by (read_entry (eqb left 0) s) refl (λ l t. actions_forth n l t)
  where
    by : (x : Result Entry ℕ) → read_entry (eqb left 0) s ≡ x
        → ((l : ℕ) (t cs : List ℕ) → all_at_most 255 t ≡ true → read_actions n l t ≡ acts cs → Told n l t cs) → Told (suc n) left s bs
    by (Ok (Move move size)) f rec =
        let g : put_action (fields 1 0 move) (read_actions n (left - 1) (drop size s)) ≡ acts bs = rw f at e in
        let p = put_action_lem (fields 1 0 move) (read_actions n (left - 1) (drop size s)) bs g in
        let t = rec (left - 1) (drop size s) p.others (most_drop size 255 s small) p.is in
        rw p.whole (move_told n left s move size p.others (entry_move (eqb left 0) s move size small f) t)
    by (Ok (Plain code size)) f rec =
        let g : put_action (fields (code / 2) (code % 2) 0) (read_actions n left (drop size s)) ≡ acts bs = rw f at e in
        let p = put_action_lem (fields (code / 2) (code % 2) 0) (read_actions n left (drop size s)) bs g in
        let t = rec left (drop size s) p.others (most_drop size 255 s small) p.is in
        rw p.whole (plain_told n left s code size p.others (entry_plain (eqb left 0) s code size small f) t)
    by (Err k) f rec =
        let g : halted k ≡ acts bs = rw f at e in
        let z : ◌≡◌ {A = ℕ} 0 1 = cc in absurd (omega arith)

-- ---- the roll

record Ended (L : Limits) (st : Start) (x : Number) (s : List ℕ) (all : Start) (n : ℕ) (bs : List ℕ) : Type 0 where
  size : ℕ
  is : x ≡ Some (n, size)
  few : n ≤ L.most_actions
  start : all ≡ st
  actions : read_actions n L.most_moves (drop size s) ≡ acts bs

with_actions_lem : (L : Limits) (st : Start) (m size : ℕ) (s : List ℕ) (x : Acts) (all : Start) (n : ℕ) (bs : List ℕ) → m ≤ L.most_actions
    → read_actions m L.most_moves (drop size s) ≡ x → with_actions st m x ≡ rolled all n bs → Ended L st (Some (m, size)) s all n bs
unfolding with_actions
with_actions_lem L st m size s (halted k) all n bs h f e = let z : ◌≡◌ {A = ℕ} 0 1 = cc in absurd (omega arith)
with_actions_lem L st m size s (acts cs) all n bs h f e =
    let a : m ≡ n = cc in
    let b : cs ≡ bs = cc in
    let d : all ≡ st = cc in
    record { size = size; is = ap (λ (i : ℕ). Some (i, size)) a; few = omega arith; start = d; actions = rw a at (f ∙ ap acts b) }

with_count_lem : (L : Limits) (st : Start) (x : Number) (s : List ℕ) (all : Start) (n : ℕ) (bs : List ℕ) → with_count L st x s ≡ rolled all n bs
    → Ended L st x s all n bs
unfolding with_count
with_count_lem L st None s all n bs e = let z : ◌≡◌ {A = ℕ} 0 1 = cc in absurd (omega arith)
with_count_lem L st (Some (m, size)) s all n bs e = by (leb m L.most_actions) refl
  where
    by : (t : Bool) → leb m L.most_actions ≡ t → Ended L st (Some (m, size)) s all n bs
    by true f = with_actions_lem L st m size s (read_actions m L.most_moves (drop size s)) all n bs (leb-true m L.most_actions f) refl (simp f at e)
    by false f =
        let g : refusal log_full ≡ rolled all n bs = simp f at e in
        let z : ◌≡◌ {A = ℕ} 0 1 = cc in absurd (omega arith)

-- a start that was read, and what is left of the text
record Begun (L : Limits) (numbers : List ℕ) (x : Counters) (s : List ℕ) (all : Start) (n : ℕ) (bs : List ℕ) : Type 0 where
  size : ℕ
  is : x ≡ Ok (all.half, all.full, size)
  start : all.numbers ≡ numbers
  ended : Ended L all (read_number (drop size s)) (drop size s) all n bs

with_counts_lem : (L : Limits) (numbers : List ℕ) (x : Counters) (s : List ℕ) (all : Start) (n : ℕ) (bs : List ℕ)
    → with_counts L numbers x s ≡ rolled all n bs → Begun L numbers x s all n bs
unfolding with_counts
with_counts_lem L numbers (Err k) s all n bs e = let z : ◌≡◌ {A = ℕ} 0 1 = cc in absurd (omega arith)
with_counts_lem L numbers (Ok (half, full, size)) s all n bs e =
    let o = with_count_lem L (record { numbers = numbers; half = half; full = full }) (read_number (drop size s)) (drop size s) all n bs e in
    let same = sym o.start in
    record {
      size = size;
      is = λ i. Ok ((same i).half, (same i).full, size);
      start = ap (λ (st : Start). st.numbers) o.start;
      ended = record { size = o.size; is = o.is; few = o.few; start = refl; actions = o.actions };
    }

with_front_lem : (counted : Bool) (L : Limits) (s : List ℕ) (x : Front) (all : Start) (n : ℕ) (bs : List ℕ) → all_at_most 255 s ≡ true
    → read_numbers largest_numbers s ≡ x → with_front counted L x ≡ rolled all n bs → WrittenBack counted L s all n bs
unfolding with_front text_by start_fits
with_front_lem counted L s (stopped k) all n bs small f e = let z : ◌≡◌ {A = ℕ} 0 1 = cc in absurd (omega arith)
with_front_lem counted L s (front numbers t) all n bs small f e =
    let b = with_counts_lem L numbers (read_counters counted t) t all n bs e in
    let o = b.ended in
    let r = numbers_forth largest_numbers s numbers t small f in
    let c = counters_forth counted t all b.size r.bytes b.is in
    let left = drop b.size t in
    let bytes = most_drop b.size 255 t r.bytes in
    let p = accepted_is_shortest left n o.size bytes o.is in
    let a = actions_forth n L.most_moves (drop o.size left) bs (most_drop o.size 255 left bytes) o.actions in
    let fits : action_size * n ≤ length bs = omega (arith, a.long) in
    let held : actions_held bs n ≡ true = held_in_range n bs fits ∙ a.in_range_lem in
    let few : moves_in bs n ≤ L.most_moves = omega (arith, as_many_moves n bs fits, a.few) in
    let within : within_bounds largest_numbers all.numbers ≡ true = ap (within_bounds largest_numbers) b.start ∙ r.within in
    let behind : left ≡ number_text n ++ actions_text n bs = p.text ∙ ap (λ (l : List ℕ). number_text n ++ l) a.text in
    record {
      game = record { start = simp c.counters within; few = o.few; few_moves = few; in_range_lem = held; long = a.long; bytes = a.bytes };
      form = c.form;
      text =
          r.text
          ∙ ap (λ (l : List ℕ). numbers_text l ++ t) (sym b.start)
          ∙ ap (λ (l : List ℕ). numbers_text all.numbers ++ l) (c.text ∙ ap (λ (l : List ℕ). counts_text counted all ++ l) behind);
    }

pub accepted_written_back : AcceptedWrittenBack
unfolding read_by
accepted_written_back counted L s st n bs small e = with_front_lem counted L s (read_numbers largest_numbers s) st n bs small refl e

pub one_roll : OneRoll
one_roll counted L s t st n bs small tiny e f =
    (accepted_written_back counted L s st n bs small e).text ∙ sym (accepted_written_back counted L t st n bs tiny f).text

pub one_game : OneGame
one_game counted L st n bs other m cs small g h f k e =
    let a : rolled st n bs ≡ rolled other m cs
    = sym (rolls_read_back counted L st n bs small g f) ∙ ap (read_by counted L) e ∙ rolls_read_back counted L other m cs small h k in
    record { starts = cc; counts = cc; actions = cc }
