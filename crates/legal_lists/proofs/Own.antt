-- The list of the legal moves is itself in range and found right.
-- Assumes nothing.
use Prim.Native.Nat.{ℕ, ◌≤◌}
use mathlib.Core.Path.{◌≡◌, refl, ap}
use mathlib.Core.Bool.{Bool, true, false, cond, ◌||◌}
use mathlib.Core.List.{List, [], ◌∷◌}
use native.Mathlib.Omega.{arith}
use lib.Dec.{eqb, leb}
use lib.ListN.{length}
use borrow.Author.Tests.{eq-eqb, le-leb}
use Rattle.answer.specs.Answer.{out_of_range, bad_list}
use Rattle.answer.specs.Numbers.{all_at_most, among}
use Rattle.board_builder.specs.declared.BoardBuilder.{BoardBuilder}
use Rattle.board_builder.specs.BoardBuilder.{in_range}
use Rattle.chess_move.specs.Number.{last_move}
use Rattle.move_list.specs.MoveList.{longest_list, list_in_range}
use Rattle.move_laws.specs.Attack.{in_check}
use Rattle.move_laws.specs.Legal.{legal_moves, list_check, check_byte}
use Rattle.move_laws.specs.Judge.{judged_answer}
use Rattle.move_laws.proofs.Listed.{lists_moves}
use Rattle.legal_lists.specs.Promises.{Right, OwnListIsRight}
use Rattle.legal_lists.proofs.Judged.{right_nothing_wrong}

or_right : (a b : Bool) → b ≡ true → a || b ≡ true
or_right true b e = refl
or_right false b e = e

bounded : (n : ℕ) (l : List ℕ) → ((k : ℕ) → among k l ≡ true → k ≤ n) → all_at_most n l ≡ true
unfolding all_at_most among
bounded n [] f = refl
bounded n (x ∷ xs) f =
    rw (le-leb x n (f x (ap (λ (t : Bool). t || among x xs) (eq-eqb x x refl)))) (bounded n xs (λ k h. f k (or_right (eqb x k) (among k xs) h)))

-- what the writer's check says when it passes
pub record Short (b : BoardBuilder) : Type 0 where
  pub range : in_range b ≡ true
  pub few : leb (length (legal_moves b)) longest_list ≡ true

pub check_passed : (b : BoardBuilder) → list_check b ≡ 0 → Short b
unfolding list_check
check_passed b e = go (in_range b) refl (leb (length (legal_moves b)) longest_list) refl e
  where
    go : (p : Bool) → in_range b ≡ p → (q : Bool) → leb (length (legal_moves b)) longest_list ≡ q → cond p (cond q 0 bad_list) out_of_range ≡ 0 → Short b
    go true x true y k = record { range = x; few = y }
    go true x false y k = absurd (omega (arith, k))
    go false x q y k = absurd (omega (arith, k))

pub own_in_range : (b : BoardBuilder) → Short b → list_in_range (legal_moves b) ≡ true
unfolding list_in_range
own_in_range b s = rw (s.few, bounded last_move (legal_moves b) (lists_moves b)) refl

byte_low : (b : BoardBuilder) → leb (check_byte b) 1 ≡ true
unfolding check_byte
byte_low b = go (in_check b.pieces b.side_to_move)
  where
    go : (t : Bool) → leb (cond t 1 0) 1 ≡ true
    go true = refl
    go false = refl

pub own_list_is_right : OwnListIsRight
unfolding judged_answer
own_list_is_right b e =
    let s = check_passed b e in
    let right : Right b (check_byte b) (legal_moves b) = record { list_owed = λ n. refl; byte_owed = refl } in
    rw (s.range, byte_low b, own_in_range b s, s.few) (right_nothing_wrong b (check_byte b) (legal_moves b) right)
