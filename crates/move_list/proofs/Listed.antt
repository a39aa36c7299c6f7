-- Whether a move is in a list, one entry after the other; and the bound of a listed move.
-- Assumes nothing.
use mathlib.Core.Path.{◌≡◌, refl}
use mathlib.Core.Bool.{Bool, true, false, ◌||◌, false≢true}
use mathlib.Core.List.{List, [], ◌∷◌}
use Prim.Native.Nat.{ℕ, ◌+◌, ◌≤◌, ◌<◌}
use native.Mathlib.Numerals.{add-one}
use native.Mathlib.Omega.{arith}
use lib.Dec.{eqb, leb}
use lib.ListN.{length, get_or, drop, drop_of_length-le}
use lib.Seq.{drop-cons}
use borrow.Author.Tests.{eq-eqb, ne_eqb, eqb-true}
use Rattle.answer.specs.Numbers.{all_at_most, among}
use Rattle.answer.proofs.Numbers.{both_right, most_head, most_tail}
use Rattle.chess_move.specs.Number.{last_move}
use Rattle.move_list.specs.MoveList.{longest_list, list_in_range}

pub listed_turn : (m : ℕ) (l : List ℕ) (i : ℕ) → i < length l → (get_or l i 0 ≡ m → ⊥) → among m (drop i l) ≡ among m (drop (i + 1) l)
unfolding among
listed_turn m l i h n = rw (add-one i, drop-cons l i 0 h) (simp (ne_eqb _ _ n))

pub listed_stop : (m : ℕ) (l : List ℕ) (i : ℕ) → i < length l → get_or l i 0 ≡ m → among m (drop i l) ≡ true
unfolding among
listed_stop m l i h e = rw (drop-cons l i 0 h) (simp (eq-eqb _ _ e))

pub listed_end : (m : ℕ) (l : List ℕ) (i : ℕ) → length l ≤ i → among m (drop i l) ≡ false
unfolding among
listed_end m l i h = rw (drop_of_length-le l h)

-- a bound on every entry is a bound on what is listed
pub listed_most : (n m : ℕ) (l : List ℕ) → all_at_most n l ≡ true → among m l ≡ true → m ≤ n
unfolding among
listed_most n m [] a e = absurd (false≢true e)
listed_most n m (x ∷ xs) a e = go (listed_most n m xs (most_tail n x xs a)) (eqb x m) refl e
  where
    go : (among m xs ≡ true → m ≤ n) → (t : Bool) → eqb x m ≡ t → t || among m xs ≡ true → m ≤ n
    go ih true q k = omega (arith, eqb-true x m q, most_head n x xs a)
    go ih false q k = ih k

pub listed_in_range : (m : ℕ) (l : List ℕ) → list_in_range l ≡ true → among m l ≡ true → m ≤ last_move
unfolding list_in_range
listed_in_range m l r e = listed_most last_move m l (both_right (leb (length l) longest_list) (all_at_most last_move l) r) e
