-- What the written list says: how many moves there are, and that the room's front is the list.
-- Assumes nothing.
use mathlib.Core.Path.{◌≡◌, refl, ap, ◌∙◌}
use mathlib.Core.Bool.{Bool, true, false, cond}
use mathlib.Core.List.{List}
use Prim.Native.Nat.{ℕ, ◌≤◌}
use native.Mathlib.Omega.{arith}
use lib.Dec.{leb}
use lib.ListN.{length, take}
use lib.Seq.{take-append_seam}
use borrow.Author.Tests.{le-leb, leb-true, leb-false}
use Rattle.answer.specs.declared.Answer.{Answer}
use Rattle.answer.specs.Answer.{accepted, refused, write_answer, write_bytes, overwrite}
use Rattle.board_builder.specs.declared.BoardBuilder.{BoardBuilder}
use Rattle.board_builder.specs.BoardBuilder.{in_range}
use Rattle.move_laws.specs.Legal.{legal_moves, list_check, check_byte, check_answer}
use Rattle.legal.proofs.Listing.{check_many, check_few}

fits_answer : (l : List ℕ) → length l ≤ 255 → write_answer 0 l 255 ≡ accepted (length l)
unfolding write_answer
fits_answer l h = simp (le-leb (length l) 255 h)

many_answer : (l : List ℕ) → write_answer 6 l 255 ≡ refused 6
unfolding write_answer
many_answer l = refl

pub owed_answer : (b : BoardBuilder) (r : Answer) → in_range b ≡ true → r ≡ write_answer (list_check b) (legal_moves b) 255 → length (legal_moves b) ≤ 255
    → r ≡ accepted (length (legal_moves b))
owed_answer b r i e h = e ∙ ap (λ (x : ℕ). write_answer x (legal_moves b) 255) (check_few b i h) ∙ fits_answer (legal_moves b) h

pub owed_few : (b : BoardBuilder) (r : Answer) → in_range b ≡ true → r ≡ write_answer (list_check b) (legal_moves b) 255 → r.number ≡ 0
    → length (legal_moves b) ≤ 255
owed_few b r i e z = go (leb (length (legal_moves b)) 255) refl
  where
    go : (t : Bool) → leb (length (legal_moves b)) 255 ≡ t → length (legal_moves b) ≤ 255
    go true q = leb-true (length (legal_moves b)) 255 q
    go false q =
        let k = check_many b i (leb-false (length (legal_moves b)) 255 q) in
        let six : r.number ≡ 6 = ap (λ (a : Answer). a.number) (e ∙ ap (λ (x : ℕ). write_answer x (legal_moves b) 255) k ∙ many_answer (legal_moves b)) in
        absurd (omega (arith, six, z))

pub owed_many : (b : BoardBuilder) (r : Answer) → in_range b ≡ true → r ≡ write_answer (list_check b) (legal_moves b) 255 → (r.number ≡ 0 → ⊥)
    → leb (length (legal_moves b)) 255 ≡ false
owed_many b r i e z = go (leb (length (legal_moves b)) 255) refl
  where
    go : (t : Bool) → leb (length (legal_moves b)) 255 ≡ t → t ≡ false
    go false q = refl
    go true q = absurd (z (ap (λ (a : Answer). a.number) (owed_answer b r i e (leb-true (length (legal_moves b)) 255 q))))

fits_bytes : (l out : List ℕ) → length l ≤ length out → write_bytes 0 l out ≡ overwrite l out
unfolding write_bytes
fits_bytes l out h = simp (le-leb (length l) (length out) h)

pub owed_room : (b : BoardBuilder) (out next : List ℕ) (n : ℕ) → in_range b ≡ true → length out ≡ 255 → length (legal_moves b) ≤ 255
    → next ≡ write_bytes (list_check b) (legal_moves b) out → n ≡ length (legal_moves b) → take n next ≡ legal_moves b
owed_room b out next n i r h e q =
    ap (λ (x : List ℕ). take n x)
    (e ∙ ap (λ (x : ℕ). write_bytes x (legal_moves b) out) (check_few b i h) ∙ fits_bytes (legal_moves b) out (omega (arith, r, h)))
    ∙ ap (λ (x : ℕ). take x (overwrite (legal_moves b) out)) q
    ∙ take-append_seam (legal_moves b) _

pub owed_byte : (b : BoardBuilder) (r : Answer) → in_range b ≡ true → r ≡ check_answer b → r.value ≡ check_byte b
unfolding check_answer
owed_byte b r i e = ap (λ (a : Answer). a.value) (e ∙ ap (λ (t : Bool). cond t (accepted (check_byte b)) (refused 5)) i)
