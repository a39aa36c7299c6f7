-- Letters seen in a token, one byte after the other.
-- Assumes nothing.
use mathlib.Core.Path.{◌≡◌, refl, ◌∙◌}
use mathlib.Core.Bool.{Bool, true, false, cond, ◌||◌}
use mathlib.Core.List.{List}
use Prim.Native.Nat.{ℕ, suc, ◌+◌, ◌*◌, ◌≤◌, ◌<◌}
use native.Mathlib.Numerals.{add-one}
use native.Mathlib.Omega.{arith}
use lib.Dec.{eqb}
use lib.ListN.{length, drop, get_or, drop_of_length-le}
use lib.Seq.{drop-cons}
use Rattle.std.specs.Int.{from_bool}
use Rattle.answer.specs.Numbers.{among}
use Rattle.fen_text.specs.Read.{rights_of}
use Rattle.fen_reader.specs.declared.token.Sides.{Sides}
use Rattle.fen_reader.specs.CodeWalk.{sides_of}

-- a letter seen so far or further on
pub seen_step : (l : ℕ) (k : Bool) (s : List ℕ) (i : ℕ) → i < length s
    → k || among l (drop i s) ≡ (k || eqb (get_or s i 0) l) || among l (drop (i + 1) s)
unfolding among
seen_step l k s i h = rw (add-one i, drop-cons s i 0 h) (by k (eqb (get_or s i 0) l) (among l (drop (suc i) s)))
  where
    by : (a b c : Bool) → a || (b || c) ≡ (a || b) || c
    by true b c = refl
    by false b c = refl

pub seen_end : (l : ℕ) (k : Bool) (s : List ℕ) (i : ℕ) → length s ≤ i → k || among l (drop i s) ≡ k
unfolding among
seen_end l k s i h = rw (drop_of_length-le s h) (by k)
  where
    by : (a : Bool) → a || false ≡ a
    by true = refl
    by false = refl

-- a byte counts for 1 or for nothing
pub one_of : (a : Bool) → from_bool a ≡ cond a 1 0
one_of true = refl
one_of false = refl

pub one_at_most : (a : Bool) → from_bool a ≤ 1
one_at_most true = omega arith
one_at_most false = omega arith

pub rights_of_lem : (l m : ℕ) (s : List ℕ) (i : ℕ) (k q : Bool) (x y : ℕ) → length s ≤ i
    → among l s ≡ k || among l (drop i s) → among m s ≡ q || among m (drop i s) → x ≡ from_bool k → y ≡ from_bool q
    → x + 2 * y ≡ rights_of l m s
unfolding rights_of
rights_of_lem l m s i k q x y h e f v w = rw (e ∙ seen_end l k s i h, f ∙ seen_end m q s i h, v, w, one_of k, one_of q)

pub both_sides : (s : List ℕ) {w b : ℕ} → w ≡ rights_of 75 81 s → b ≡ rights_of 107 113 s → ◌≡◌ {A = Sides} (record { white = w; black = b }) (sides_of s)
both_sides s e f = rw (e, f)
