-- What the tests of the code say of a move: one that touches no more than its two squares sets just those; a double step; squares two apart on one rank.
-- Assumes nothing.
use mathlib.Core.Path.{◌≡◌, refl, ap, sym, ◌∙◌}
use mathlib.Core.Bool.{Bool, true, false, cond, not, ◌&&◌, ◌||◌, and-true, and-false}
use mathlib.Core.List.{List}
use Prim.Native.Nat.{ℕ, ◌+◌, ◌-◌, ◌<◌}
use native.Mathlib.Omega.{arith}
use lib.Dec.{T, eqb}
use lib.ListN.{set}
use borrow.Author.Tests.{eq-eqb, ne_eqb, eqb-true, eqb-false}
use Rattle.square.specs.Piece.{kind_of, pawn, man_on}
use Rattle.answer.proofs.Below.{holds, fails, belows}
use Rattle.answer.proofs.Numbers.{or_left, or_right}
use Rattle.move_rules.specs.After.{rank, file, two_apart, steps_twice, colour_step, castles, rook_moved, takes_in_passing}
use Rattle.move_rules.specs.After.{pawn_removed, set_down, squares_after}
use Rattle.board_after.specs.CodeDiffer.{touches_more}

-- a move that touches no more than its two squares
module _ (l : List ℕ) (source dest promotion : ℕ) (e : touches_more l (man_on l source) source dest ≡ false) where
  not_castles : castles (man_on l source) source dest ≡ false
  unfolding touches_more
  not_castles = or_left (castles (man_on l source) source dest) (takes_in_passing l (man_on l source) source dest || eqb source dest) e

  not_others : (takes_in_passing l (man_on l source) source dest ≡ false) × (eqb source dest ≡ false)
  unfolding touches_more
  not_others =
      let rest = or_right (castles (man_on l source) source dest) (takes_in_passing l (man_on l source) source dest || eqb source dest) e in (
        or_left (takes_in_passing l (man_on l source) source dest) (eqb source dest) rest,
        or_right (takes_in_passing l (man_on l source) source dest) (eqb source dest) rest,
      )

  pub apart : source ≡ dest → ⊥
  apart = eqb-false source dest not_others.1

  pub only_two : squares_after l source dest promotion ≡ set (set l source 0) dest (set_down (man_on l source) promotion)
  unfolding squares_after rook_moved pawn_removed
  only_two = simp (not_castles, not_others.0)

-- how far two numbers are apart, tested either way round
pub apart_by : (n a b d : ℕ) → d ≡ (a - b) + (b - a) → eqb d n ≡ (eqb b (a + n) || eqb a (b + n))
apart_by n a b d e = go (eqb b (a + n)) refl (eqb a (b + n)) refl
  where
    go : (x : Bool) → eqb b (a + n) ≡ x → (y : Bool) → eqb a (b + n) ≡ y → eqb d n ≡ (x || y)
    go true p y q = let z = eqb-true b (a + n) p in eq-eqb d n (omega (arith, e, z))
    go false p true q = let z = eqb-true a (b + n) q in eq-eqb d n (omega (arith, e, z))
    go false p false q = let u = eqb-false b (a + n) p in let v = eqb-false a (b + n) q in ne_eqb d n (λ f. omega (arith, e, f, u, v))

-- two ranks on one file are 16 squares, at each pair of squares
far : ℕ → ℕ → Bool
far a b = eqb b (a + 16) || eqb a (b + 16)

agree : Bool → Bool → Bool
agree a b = cond a b (not b)

agreed : (a b : Bool) → T (agree a b) → a ≡ b
unfolding agree
agreed true b t = sym (holds b t)
agreed false b t = sym (fails b t)

two_ranks : (source dest : ℕ) → source < 64 → dest < 64
    → (eqb (file source) (file dest) && two_apart (rank source) (rank dest)) ≡ (eqb dest (source + 16) || eqb source (dest + 16))
unfolding two_apart agree far
two_ranks source dest h k =
    agreed (eqb (file source) (file dest) && two_apart (rank source) (rank dest)) (far source dest)
    (belows (λ (a b : ℕ). agree (eqb (file a) (file b) && two_apart (rank a) (rank b)) (far a b)) 64 64 tt source dest h k)

module _ (man source dest kind : ℕ) (h : source < 64) (k : dest < 64) (t : Bool) (e : t ≡ (eqb dest (source + 16) || eqb source (dest + 16))) where
  pub no_double : t ≡ false → false ≡ steps_twice man source dest
  unfolding steps_twice
  no_double f = sym (ap (λ (u : Bool). eqb (kind_of man) pawn && u) (two_ranks source dest h k ∙ sym e ∙ f) ∙ and-false (eqb (kind_of man) pawn))

  pub double_by : t ≡ true → kind ≡ kind_of man → eqb kind 1 ≡ steps_twice man source dest
  unfolding steps_twice
  double_by f g =
      ap (λ (x : ℕ). eqb x 1) g
      ∙ sym (ap (λ (u : Bool). eqb (kind_of man) pawn && u) (two_ranks source dest h k ∙ sym e ∙ f) ∙ and-true (eqb (kind_of man) pawn))

-- on one rank, squares are two apart exactly if their files are
pub two_on_rank : (source dest : ℕ) → source < 64 → dest < 64
    → (eqb (rank source) (rank dest) && two_apart source dest) ≡ (eqb (rank source) (rank dest) && two_apart (file source) (file dest))
unfolding two_apart agree
two_on_rank source dest h k =
    agreed (eqb (rank source) (rank dest) && two_apart source dest) (eqb (rank source) (rank dest) && two_apart (file source) (file dest))
    (belows (λ (a b : ℕ). agree (eqb (rank a) (rank b) && two_apart a b) (eqb (rank a) (rank b) && two_apart (file a) (file b))) 64 64 tt source dest h k)

-- without a promotion the man that moves is set down, and nothing if none moves
pub kept_man : (man promotion : ℕ) → promotion ≡ 0 → man ≡ set_down man promotion
unfolding set_down
kept_man man promotion e = go (eqb man 0) refl
  where
    go : (t : Bool) → eqb man 0 ≡ t → man ≡ cond t 0 (cond (eqb promotion 0) man (promotion + colour_step man))
    go true h = eqb-true man 0 h
    go false h = rw (eq-eqb promotion 0 e)
