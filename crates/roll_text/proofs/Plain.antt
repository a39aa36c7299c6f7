-- The numbers of a record in range are one byte each: its text is the numbers themselves.
-- Assumes nothing.
use mathlib.Core.Path.{◌≡◌, refl, ap, ◌∙◌}
use mathlib.Core.Bool.{true, false≢true}
use mathlib.Core.List.{List, [], ◌∷◌}
use Prim.Native.Nat.{ℕ, ◌≤◌}
use native.Mathlib.Omega.{arith}
use lib.Dec.{leb}
use borrow.Author.Tests.{leb-true}
use Rattle.answer.specs.Numbers.{all_at_most}
use Rattle.answer.proofs.Numbers.{both_left, both_right, most_head, most_tail}
use Rattle.board_builder.specs.BoardBuilder.{numbers_in_range}
use Rattle.roll_text.specs.Number.{number_text}
use Rattle.roll_text.specs.Roll.{largest_numbers, within_bounds, numbers_text}
use Rattle.roll_text.proofs.Numbers.{groups_last}
use Rattle.roll_text.proofs.Back.{small_bounds}
use Rattle.roll_text.proofs.Bounds.{bounds_are_the_records}

pub numbers_plain : (ms xs : List ℕ) → all_at_most 12 ms ≡ true → within_bounds ms xs ≡ true → numbers_text xs ≡ xs
unfolding within_bounds numbers_text
numbers_plain [] [] small e = refl
numbers_plain [] (x ∷ xs) small e = absurd (false≢true e)
numbers_plain (m ∷ ms) [] small e = absurd (false≢true e)
numbers_plain (m ∷ ms) (x ∷ xs) small e =
    let h : x ≤ m = leb-true x m (both_left (leb x m) (within_bounds ms xs) e) in
    let l : m ≤ 12 = most_head 12 m ms small in
    let t : number_text x ≡ x ∷ [] = groups_last 4 x (omega arith) in
    rw t (ap (λ (r : List ℕ). x ∷ r) (numbers_plain ms xs (most_tail 12 m ms small) (both_right (leb x m) (within_bounds ms xs) e)))

pub start_numbers_lem : (xs : List ℕ) → numbers_in_range xs ≡ true → numbers_text xs ≡ xs
start_numbers_lem xs e = numbers_plain largest_numbers xs small_bounds (bounds_are_the_records xs ∙ e)
