-- The squares after a move: there are as many, each a piece code.
-- Assumes nothing.
use mathlib.Core.Path.{◌≡◌, refl, ◌∙◌}
use mathlib.Core.Bool.{Bool, true, false, cond}
use mathlib.Core.List.{List}
use Prim.Native.Nat.{ℕ, ◌+◌, ◌*◌, ◌/◌, ◌%◌, ◌≤◌, ◌<◌, zero-le}
use native.Mathlib.Omega.{arith}
use lib.Dec.{eqb, leb, ltb}
use lib.ListN.{length, set, length-set}
use Rattle.answer.specs.Numbers.{all_at_most}
use Rattle.square.specs.Piece.{man_on}
use Rattle.answer.proofs.Bounds.{bound_at}
use Rattle.answer.proofs.Numbers.{most_set}
use Rattle.square.specs.Square.{square_of}
use Rattle.move_rules.specs.After.{colour_step, castles, corner, passed_over, rook_moved, takes_in_passing}
use Rattle.move_rules.specs.After.{pawn_removed, set_down, squares_after}

pub corner_below : (source dest : ℕ) → source < 64 → corner source dest < 64
unfolding corner
corner_below source dest h = go (ltb source dest)
  where
    go : (t : Bool) → source / 8 * 8 + cond t 7 0 < 64
    go true = omega arith
    go false = omega arith

module _ (man source dest : ℕ) where
  pub rook_length : (l : List ℕ) → length (rook_moved l man source dest) ≡ length l
  unfolding rook_moved
  rook_length l = go (castles man source dest)
    where
      go : (t : Bool) → length (cond t (set (set l (passed_over source dest) (man_on l (corner source dest))) (corner source dest) 0) l) ≡ length l
      go true = simp length-set
      go false = refl

  pub pawn_length : (l : List ℕ) → length (pawn_removed l man source dest) ≡ length l
  unfolding pawn_removed
  pawn_length l = go (takes_in_passing l man source dest)
    where
      go : (t : Bool) → length (cond t (set l (square_of (source / 8) (dest % 8)) 0) l) ≡ length l
      go true = simp length-set
      go false = refl

  rook_codes : (l : List ℕ) → all_at_most 12 l ≡ true → all_at_most 12 (rook_moved l man source dest) ≡ true
  unfolding rook_moved
  rook_codes l e = go (castles man source dest)
    where
      go : (t : Bool) → all_at_most 12 (cond t (set (set l (passed_over source dest) (man_on l (corner source dest))) (corner source dest) 0) l) ≡ true
      go true =
          most_set 12 (set l (passed_over source dest) (man_on l (corner source dest))) (corner source dest) 0 zero-le
          (most_set 12 l (passed_over source dest) (man_on l (corner source dest)) (bound_at 12 l (corner source dest) e) e)
      go false = e

  pawn_codes : (l : List ℕ) → all_at_most 12 l ≡ true → all_at_most 12 (pawn_removed l man source dest) ≡ true
  unfolding pawn_removed
  pawn_codes l e = go (takes_in_passing l man source dest)
    where
      go : (t : Bool) → all_at_most 12 (cond t (set l (square_of (source / 8) (dest % 8)) 0) l) ≡ true
      go true = most_set 12 l (square_of (source / 8) (dest % 8)) 0 zero-le e
      go false = e

set_down_code : (man promotion : ℕ) → man ≤ 12 → promotion ≤ 6 → set_down man promotion ≤ 12
unfolding set_down colour_step
set_down_code man promotion h k = go (eqb man 0) (eqb promotion 0) (leb man 6)
  where
    go : (a b t : Bool) → cond a 0 (cond b man (promotion + cond t 0 6)) ≤ 12
    go true b t = omega arith
    go false true t = omega arith
    go false false true = omega arith
    go false false false = omega arith

module _ (l : List ℕ) (source dest promotion : ℕ) where
  pub squares_length : length (squares_after l source dest promotion) ≡ length l
  unfolding squares_after
  squares_length =
      simp length-set
      (pawn_length (man_on l source) source dest (rook_moved l (man_on l source) source dest) ∙ rook_length (man_on l source) source dest l)

  pub squares_codes : all_at_most 12 l ≡ true → promotion ≤ 6 → all_at_most 12 (squares_after l source dest promotion) ≡ true
  unfolding squares_after
  squares_codes e k =
      let man : ℕ = man_on l source in
      let rooks : List ℕ = rook_moved l man source dest in
      let pawns : List ℕ = pawn_removed rooks man source dest in
      most_set 12 (set pawns source 0) dest (set_down man promotion) (set_down_code man promotion (bound_at 12 l source e) k)
      (most_set 12 pawns source 0 zero-le (pawn_codes man source dest rooks (rook_codes man source dest l e)))
