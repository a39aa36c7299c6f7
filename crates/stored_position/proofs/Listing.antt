-- Whether a move is in a position's list, move by move.
-- Assumes nothing.
use mathlib.Core.Path.{◌≡◌}
use mathlib.Core.Bool.{true, false}
use mathlib.Core.List.{List, ◌∷◌}
use Prim.Native.Nat.{ℕ, suc, ◌+◌, ◌*◌, ◌-◌, ◌<◌, ◌≤◌}
use native.Mathlib.Omega.{arith}
use lib.ListN.{length, get_or}
use borrow.Author.Tests.{eq-eqb, ne_eqb}
use Rattle.answer.specs.Numbers.{among}
use Rattle.chess_move.specs.Number.{of_bytes}
use Rattle.position.specs.Layout.{moves_at, length_at, position_size, moves_from, position_of}
use Rattle.stored_position.specs.Bytes.{lists_move}

-- the moves from entry i on, of k in all
abbrev pub moves_left : List ℕ → ℕ → ℕ → List ℕ
moves_left s k i = moves_from s (moves_at + 2 * i) (k - i)

abbrev pub move_here : List ℕ → ℕ → ℕ
move_here s i = of_bytes (get_or s (moves_at + 2 * i) 0) (get_or s (moves_at + 2 * i + 1) 0)

pub one_less : (s : List ℕ) (k i : ℕ) → i < k → moves_left s k i ≡ move_here s i ∷ moves_left s k (i + 1)
unfolding moves_from
one_less s k i h =
    let e : k - i ≡ suc (k - (i + 1)) = omega arith in
    let f : moves_at + 2 * (i + 1) ≡ moves_at + 2 * i + 2 = omega arith in
    rw (e, f)

pub lists_start : (s : List ℕ) (m : ℕ) → length s ≡ position_size → among m (moves_left s (get_or s length_at 0) 0) ≡ lists_move s m
unfolding lists_move position_of
lists_start s m h =
    let e : get_or s length_at 0 - 0 ≡ get_or s length_at 0 = omega arith in
    rw (e, eq-eqb _ _ h)

pub lists_turn : (s : List ℕ) (m k i : ℕ) → i < k → (move_here s i ≡ m → ⊥) → among m (moves_left s k i) ≡ among m (moves_left s k (i + 1))
unfolding among
lists_turn s m k i h n = rw (one_less s k i h, ne_eqb _ _ n)

pub lists_stop : (s : List ℕ) (m k i : ℕ) → i < k → move_here s i ≡ m → among m (moves_left s k i) ≡ true
unfolding among
lists_stop s m k i h e = rw (one_less s k i h, eq-eqb _ _ e)

pub lists_end : (s : List ℕ) (m k i : ℕ) → k ≤ i → among m (moves_left s k i) ≡ false
unfolding among moves_from
lists_end s m k i h = let e : k - i ≡ 0 = omega arith in rw e

pub lists_short : (s : List ℕ) (m : ℕ) → (length s ≡ position_size → ⊥) → lists_move s m ≡ false
unfolding lists_move
lists_short s m h = rw (ne_eqb _ _ h)
