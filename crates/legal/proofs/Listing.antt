-- Laws of the list that is handed out: what is checked, and what the room holds.
-- Assumes nothing.
use mathlib.Core.Path.{◌≡◌, refl, ap, sym, ◌∙◌}
use mathlib.Core.Bool.{Bool, true, false}
use mathlib.Core.List.{List}
use Prim.Native.Nat.{ℕ, ◌+◌, ◌≤◌, ◌<◌}
use native.Mathlib.Omega.{arith}
use lib.Dec.{leb}
use lib.ListN.{length, take}
use borrow.Author.Tests.{le-leb, lt-leb, leb-true, leb-false}
use Rattle.answer.specs.Answer.{refused, write_answer, write_bytes}
use Rattle.board_builder.specs.declared.BoardBuilder.{BoardBuilder}
use Rattle.board_builder.specs.BoardBuilder.{in_range}
use Rattle.move_laws.specs.Legal.{legal_moves, list_check}
use Rattle.legal.specs.CodeList.{count_from, filled_from}
use Rattle.legal.proofs.Room.{count_fits, count_over, room_front}

pub few : (l : List ℕ) (n : ℕ) → n ≡ count_from 0 l → n ≤ 255 → length l ≤ 255
few l n e h = go (leb (length l) 255) refl
  where
    go : (u : Bool) → leb (length l) 255 ≡ u → length l ≤ 255
    go true q = leb-true (length l) 255 q
    go false q =
        let k : 255 < 0 + length l = omega (arith, leb-false (length l) 255 q) in
        let z : count_from 0 l ≡ 256 = count_over 0 l (omega arith) k in
        absurd (omega (arith, e, z, h))

pub many : (l : List ℕ) (n : ℕ) → n ≡ count_from 0 l → 255 < n → 255 < length l
many l n e h = go (leb (length l) 255) refl
  where
    go : (u : Bool) → leb (length l) 255 ≡ u → 255 < length l
    go false q = leb-false (length l) 255 q
    go true q =
        let k : 0 + length l ≤ 255 = omega (arith, leb-true (length l) 255 q) in
        let z : count_from 0 l ≡ 0 + length l = count_fits 0 l k in
        absurd (omega (arith, e, z, h, k))

pub front : (l room next : List ℕ) (n : ℕ) → length room ≡ 255 → n ≡ count_from 0 l → n ≤ 255 → next ≡ filled_from room 0 l → take n next ≡ l
front l room next n r e h p =
    let k : 0 + length l ≤ 255 = omega (arith, few l n e h) in
    ap (λ (x : List ℕ). take n x) p
    ∙ ap (λ (x : ℕ). take x (filled_from room 0 l)) (e ∙ count_fits 0 l k)
    ∙ room_front room 0 l r k

pub front_length : (l room next : List ℕ) (n : ℕ) → length room ≡ 255 → n ≡ count_from 0 l → n ≤ 255 → next ≡ filled_from room 0 l
    → n ≡ length (take n next)
front_length l room next n r e h p =
    let k : 0 + length l ≤ 255 = omega (arith, few l n e h) in
    let z : 0 + length l ≡ length l = omega arith in
    e ∙ count_fits 0 l k ∙ z ∙ sym (ap length (front l room next n r e h p))

pub check_range : (b : BoardBuilder) → in_range b ≡ false → list_check b ≡ 5
unfolding list_check
check_range b r = simp r

pub check_many : (b : BoardBuilder) → in_range b ≡ true → 255 < length (legal_moves b) → list_check b ≡ 6
unfolding list_check
check_many b r h = simp (r, lt-leb (length (legal_moves b)) 255 h)

pub check_few : (b : BoardBuilder) → in_range b ≡ true → length (legal_moves b) ≤ 255 → list_check b ≡ 0
unfolding list_check
check_few b r h = simp (r, le-leb (length (legal_moves b)) 255 h)

pub answer_5 : (check : ℕ) (l : List ℕ) (room : ℕ) → check ≡ 5 → refused 5 ≡ write_answer check l room
unfolding write_answer
answer_5 check l room e = sym (ap (λ (x : ℕ). write_answer x l room) e)

pub answer_6 : (check : ℕ) (l : List ℕ) (room : ℕ) → check ≡ 6 → refused 6 ≡ write_answer check l room
unfolding write_answer
answer_6 check l room e = sym (ap (λ (x : ℕ). write_answer x l room) e)

pub bytes_5 : (check : ℕ) (l out : List ℕ) → check ≡ 5 → out ≡ write_bytes check l out
unfolding write_bytes
bytes_5 check l out e = sym (ap (λ (x : ℕ). write_bytes x l out) e)

pub bytes_6 : (check : ℕ) (l out : List ℕ) → check ≡ 6 → out ≡ write_bytes check l out
unfolding write_bytes
bytes_6 check l out e = sym (ap (λ (x : ℕ). write_bytes x l out) e)

pub answer_0 : (check : ℕ) (l text : List ℕ) (room : ℕ) → check ≡ 0 → text ≡ l → write_answer 0 text room ≡ write_answer check l room
answer_0 check l text room e p = ap (λ (x : List ℕ). write_answer 0 x room) p ∙ sym (ap (λ (x : ℕ). write_answer x l room) e)

pub bytes_0 : (check : ℕ) (l text out : List ℕ) → check ≡ 0 → text ≡ l → write_bytes 0 text out ≡ write_bytes check l out
bytes_0 check l text out e p = ap (λ (x : List ℕ). write_bytes 0 x out) p ∙ sym (ap (λ (x : ℕ). write_bytes x l out) e)
