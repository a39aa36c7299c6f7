-- What any writer says about its text's length: ours keep it, and one that invents a length does not, since the numbers and the bytes leave no choice.
-- Assumes nothing.
use mathlib.Core.Path.{◌≡◌, refl, sym, ap, ◌∙◌}
use mathlib.Core.Bool.{Bool, true, false, cond}
use mathlib.Core.List.{List}
use Prim.Native.Nat.{ℕ, ◌+◌, ◌≤◌, ◌<◌}
use native.Mathlib.Omega.{arith}
use lib.Dec.{eqb, leb}
use lib.ListN.{length, drop, get_or, replicate, length-replicate, get_or-replicate, get_or-append}
use lib.Seq.{get_or-append-add, get_or-drop}
use borrow.Author.Tests.{eqb-true, eqb-false, leb-true, leb-false, le-leb}
use Rattle.answer.specs.declared.Answer.{Answer}
use Rattle.answer.specs.Answer.{output_too_short, accepted, overwrite, write_answer, write_bytes}
use Rattle.answer.specs.Promises.{Fitted, Needed, ItsText, WritersKeepItsText, InventedLengthFails}
use Rattle.answer.proofs.Writes.{refused_writes_nothing}

-- ---- ours

pub room_enough : (text : List ℕ) → write_answer 0 text (length text) ≡ accepted (length text)
unfolding write_answer
room_enough text = let h : length text ≤ length text = omega arith in rw (le-leb (length text) (length text) h)

module _ (check : ℕ) (text : List ℕ) (before : check ≡ output_too_short → ⊥) where
  our_fitted : (out : List ℕ) → (write_answer check text (length out)).number ≡ 0
      → Fitted text out (write_answer check text (length out)).value (write_bytes check text out)
  unfolding write_answer write_bytes
  our_fitted out h = go (eqb check 0) (leb (length text) (length out)) refl refl
    where
      go : (a b : Bool) → eqb check 0 ≡ a → leb (length text) (length out) ≡ b
          → Fitted text out (write_answer check text (length out)).value (write_bytes check text out)
      go true true e f = record { room = leb-true _ _ f; long = simp (e, f); bytes = simp (e, f) }
      go true false e f = absurd (omega (arith, simp (e, f) at h))
      go false b e f = absurd (eqb-false check 0 e (simp e at h))

  pub our_needed : (room : ℕ) → (write_answer check text room).number ≡ output_too_short → Needed text (λ (r : ℕ). write_answer check text r) room
  unfolding write_answer
  our_needed room h = go (eqb check 0) (leb (length text) room) refl refl
    where
      go : (a b : Bool) → eqb check 0 ≡ a → leb (length text) room ≡ b → Needed text (λ (r : ℕ). write_answer check text r) room
      go true true e f = absurd (omega (arith, simp (e, f) at h))
      go true false e f =
          record {
            long = simp (e, f);
            shorter = leb-false (length text) room f;
            enough = ap (λ (c : ℕ). (write_answer c text (length text)).number) (eqb-true check 0 e) ∙ ap (λ (a : Answer). a.number) (room_enough text);
          }
      go false b e f = absurd (before (simp e at h))

  our_nothing : (room : ℕ) → ((write_answer check text room).number ≡ 0 → ⊥) → ((write_answer check text room).number ≡ output_too_short → ⊥)
      → (write_answer check text room).value ≡ 0
  unfolding write_answer
  our_nothing room z s = go (eqb check 0) (leb (length text) room) refl refl
    where
      go : (a b : Bool) → eqb check 0 ≡ a → leb (length text) room ≡ b → (write_answer check text room).value ≡ 0
      go true true e f = absurd (z (simp (e, f)))
      go true false e f = absurd (s (simp (e, f)))
      go false b e f = simp e

pub writers_keep_its_text : WritersKeepItsText
writers_keep_its_text check text before =
    record {
      fitted = our_fitted check text before;
      needed = our_needed check text before;
      nothing = our_nothing check text before;
      unchanged = refused_writes_nothing check text;
    }

-- a check before 7 that is passed or gives one number
pub passed_or : (t : Bool) (n : ℕ) → (n ≡ output_too_short → ⊥) → cond t 0 n ≡ output_too_short → ⊥
passed_or true n h e = omega arith
passed_or false n h e = h e

-- ---- an invented length

-- just behind a text the room is as it was, and inside a longer one the room does not matter
behind : (text out : List ℕ) → get_or (overwrite text out) (length text) 0 ≡ get_or out (length text) 0
behind text out =
    let z : length text + 0 ≡ length text = omega arith in
    (rw z at (get_or-append-add text (drop (length text) out) 0 0)) ∙ get_or-drop (length text) out 0 0 ∙ rw z

-- so a text and a longer one are told apart by one of two rooms
shorter_differs : (s t : List ℕ) (n : ℕ) → length s < length t → length t ≤ n
    → overwrite s (replicate n 0) ≡ overwrite t (replicate n 0) → overwrite s (replicate n 1) ≡ overwrite t (replicate n 1) → ⊥
shorter_differs s t n h k zeros ones =
    let i : length s < n = omega arith in
    let inside : (out : List ℕ) → overwrite s out ≡ overwrite t out → get_or out (length s) 0 ≡ get_or t (length s) 0
    = λ out e. sym (behind s out) ∙ ap (λ (l : List ℕ). get_or l (length s) 0) e ∙ get_or-append t (drop (length t) out) 0 (length s) h in
    let z : ◌≡◌ {A = ℕ} 0 1 =
    sym (get_or-replicate n (length s) 0 0 i) ∙ inside (replicate n 0) zeros ∙ sym (inside (replicate n 1) ones) ∙ get_or-replicate n (length s) 1 0 i in
    omega arith

module _ (theirs answer : ℕ → Answer) (left bytes : List ℕ → List ℕ) (s t : List ℕ) (a : ItsText s theirs left) (b : ItsText t answer bytes)
    (numbers : (room : ℕ) → (answer room).number ≡ (theirs room).number) (writes : (out : List ℕ) → bytes out ≡ left out) where
  their_fit : (room v : ℕ) → (theirs room).number ≡ 0 → Fitted s (replicate room v) (theirs room).value (left (replicate room v))
  their_fit room v h = let l = length-replicate room v in rw l at (a.fitted (replicate room v) (rw l h))

  own_fit : (room v : ℕ) → (theirs room).number ≡ 0 → Fitted t (replicate room v) (answer room).value (bytes (replicate room v))
  own_fit room v h = let l = length-replicate room v in rw l at (b.fitted (replicate room v) (rw l (numbers room ∙ h)))

  -- a room that both accept makes the two texts equally long
  one_length : (room : ℕ) → (theirs room).number ≡ 0 → length t ≡ length s
  one_length room h =
      let same_bytes : (v : ℕ) → overwrite s (replicate room v) ≡ overwrite t (replicate room v)
      = λ v. sym (their_fit room v h).bytes ∙ sym (writes (replicate room v)) ∙ (own_fit room v h).bytes in
      let l = length-replicate {A = ℕ} room 0 in
      let ra : length s ≤ room = rw l at (their_fit room 0 h).room in
      let rb : length t ≤ room = rw l at (own_fit room 0 h).room in
      let x : length s < length t → ⊥ = λ k. shorter_differs s t room k rb (same_bytes 0) (same_bytes 1) in
      let y : length t < length s → ⊥ = λ k. shorter_differs t s room k ra (sym (same_bytes 0)) (sym (same_bytes 1)) in
      omega arith

  -- so all values are the same
  one_value : (room : ℕ) → (answer room).value ≡ (theirs room).value
  one_value room = go (eqb (theirs room).number 0) (eqb (theirs room).number output_too_short) refl refl
    where
      go : (p q : Bool) → eqb (theirs room).number 0 ≡ p → eqb (theirs room).number output_too_short ≡ q → (answer room).value ≡ (theirs room).value
      go true q e f = let h = eqb-true _ _ e in (own_fit room 0 h).long ∙ one_length room h ∙ sym (their_fit room 0 h).long
      go false true e f =
          let h : (theirs room).number ≡ output_too_short = eqb-true _ _ f in
          let n = a.needed room h in
          (b.needed room (numbers room ∙ h)).long ∙ one_length (length s) n.enough ∙ sym n.long
      go false false e f =
          let z : (theirs room).number ≡ 0 → ⊥ = eqb-false _ _ e in
          let o : (theirs room).number ≡ output_too_short → ⊥ = eqb-false _ _ f in
          b.nothing room (λ k. z (sym (numbers room) ∙ k)) (λ k. o (sym (numbers room) ∙ k)) ∙ sym (a.nothing room z o)

pub invented_length_fails : InventedLengthFails
invented_length_fails theirs answer left bytes s t a i b = i.another (one_value theirs answer left bytes s t a b i.numbers i.writes i.room)
