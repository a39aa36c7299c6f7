-- What any writer of texts answers and leaves in its room, in its three cases: refused before 7, too short, written.
-- Assumes nothing.
use mathlib.Core.Path.{◌≡◌, refl}
use mathlib.Core.Bool.{Bool, true, false}
use mathlib.Core.List.{List, ◌++◌}
use Prim.Native.Nat.{ℕ, ◌≤◌, ◌<◌}
use native.Mathlib.Omega.{arith}
use lib.Dec.{eqb, leb}
use lib.ListN.{length, take, drop, length-append, length-drop}
use lib.Seq.{take_at, drop_at}
use borrow.Author.Tests.{ne_eqb, le-leb, lt-leb, eqb-true, eqb-false, leb-true}
use Rattle.answer.specs.declared.Answer.{Answer}
use Rattle.answer.specs.Answer.{accepted, refused, too_short, overwrite, write_answer, write_bytes}
use Rattle.answer.specs.Promises.{RefusedWritesNothing, WritesItsText, AcceptedWritesItsText}

-- an answer and the room at exit are those of a writer
pub record Written (check : ℕ) (text out : List ℕ) (r : Answer) (exit : List ℕ) : Type 0 where
  pub answer : r ≡ write_answer check text (length out)
  pub bytes : exit ≡ write_bytes check text out

pub write_refused : (check : ℕ) (text out : List ℕ) → (check ≡ 0 → ⊥) → Written check text out (refused check) out
unfolding write_answer write_bytes
write_refused check text out h = record { answer = simp (ne_eqb _ _ h); bytes = simp (ne_eqb _ _ h) }

pub write_short : (text out : List ℕ) → length out < length text → Written 0 text out (too_short (length text)) out
unfolding write_answer write_bytes
write_short text out h = record { answer = simp (lt-leb _ _ h); bytes = simp (lt-leb _ _ h) }

pub write_fits : (text out : List ℕ) → length text ≤ length out → Written 0 text out (accepted (length text)) (overwrite text out)
unfolding write_answer write_bytes
write_fits text out h = record { answer = simp (le-leb _ _ h); bytes = simp (le-leb _ _ h) }

pub refused_writes_nothing : RefusedWritesNothing
unfolding write_answer write_bytes
refused_writes_nothing check text out h = go (eqb check 0) (leb (length text) (length out)) refl refl
  where
    go : (a b : Bool) → eqb check 0 ≡ a → leb (length text) (length out) ≡ b → write_bytes check text out ≡ out
    go true true e f = absurd (h (simp (e, f)))
    go true false e f = simp (e, f)
    go false b e f = simp e

-- a text with anything behind it
front_of_lem : (text l : List ℕ) → take (length text) (text ++ l) ≡ text
front_of_lem text l = take_at text l (length text) refl

behind_of : (text l : List ℕ) → drop (length text) (text ++ l) ≡ l
behind_of text l = drop_at text l (length text) refl

pub accepted_writes_its_text : AcceptedWritesItsText
unfolding write_answer write_bytes
accepted_writes_its_text check text out h = go (eqb check 0) (leb (length text) (length out)) refl refl
  where
    go : (a b : Bool) → eqb check 0 ≡ a → leb (length text) (length out) ≡ b → WritesItsText check text out
    go true true e f = record { long = simp (e, f); front = simp (e, f, front_of_lem text); behind = simp (e, f, behind_of text) }
    go true false e f = absurd (omega (arith, simp (e, f) at h))
    go false b e f = absurd (eqb-false check 0 e (simp e at h))

-- an accepted writer's check passed
pub check_passed : (check : ℕ) (text : List ℕ) (room : ℕ) → (write_answer check text room).number ≡ 0 → check ≡ 0
unfolding write_answer
check_passed check text room h = go (eqb check 0) refl
  where
    go : (b : Bool) → eqb check 0 ≡ b → check ≡ 0
    go true e = eqb-true check 0 e
    go false e = simp e at h

-- a writer leaves the room as long as it was
pub write_length : (check : ℕ) (text out : List ℕ) → length (write_bytes check text out) ≡ length out
unfolding write_bytes
write_length check text out = go (eqb check 0) (leb (length text) (length out)) refl refl
  where
    go : (a b : Bool) → eqb check 0 ≡ a → leb (length text) (length out) ≡ b → length (write_bytes check text out) ≡ length out
    go true true e f = simp (e, f) (simp (length-append, length-drop) (omega (arith, leb-true (length text) (length out) f)))
    go true false e f = simp (e, f)
    go false b e f = simp e
