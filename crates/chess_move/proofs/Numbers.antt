-- Laws of a move's number and its three parts, over plain numbers, and the promises on them.
-- Assumes nothing.
use mathlib.Core.Path.{◌≡◌, refl, sym, ◌∙◌}
use mathlib.Core.Bool.{Bool, true, false}
use Prim.Native.Nat.{ℕ, ◌/◌, ◌%◌, ◌≤◌}
use native.Mathlib.Omega.{arith}
use lib.Dec.{leb}
use borrow.Author.Tests.{le-leb, leb-true}
use Rattle.chess_move.specs.Number.{last_move, source_of, dest_of, promotion_of, number_of, move_of, number_answer}
use Rattle.chess_move.specs.Promises.{NumberOfParts, PartsOfNumber}

pub number_most : (s d p : ℕ) → s ≤ 63 → d ≤ 63 → p ≤ 6 → number_of s d p ≤ last_move
number_most s d p hs hd hp = omega arith

pub source_of_number : (s d p : ℕ) → s ≤ 63 → d ≤ 63 → source_of (number_of s d p) ≡ s
source_of_number s d p hs hd = omega arith

pub dest_of_number : (s d p : ℕ) → s ≤ 63 → d ≤ 63 → dest_of (number_of s d p) ≡ d
dest_of_number s d p hs hd = omega arith

pub promotion_of_number : (s d p : ℕ) → s ≤ 63 → d ≤ 63 → promotion_of (number_of s d p) ≡ p
promotion_of_number s d p hs hd = omega arith

pub source_most : (n : ℕ) → source_of n ≤ 63
source_most n = omega arith

pub dest_most : (n : ℕ) → dest_of n ≤ 63
dest_most n = omega arith

pub promotion_most : (n : ℕ) → n ≤ last_move → promotion_of n ≤ 6
promotion_most n h = omega arith

pub number_of_its_parts : (n : ℕ) → number_of (source_of n) (dest_of n) (promotion_of n) ≡ n
number_of_its_parts n = omega arith

pub same_number : (a b : ℕ) → source_of a ≡ source_of b → dest_of a ≡ dest_of b → promotion_of a ≡ promotion_of b → a ≡ b
same_number a b s d p = sym (number_of_its_parts a) ∙ rw (s, d, p) (number_of_its_parts b)

-- a square is that of its file and its rank
pub same_square : (a b : ℕ) → a % 8 ≡ b % 8 → a / 8 ≡ b / 8 → a ≡ b
same_square a b f r = omega arith

pub number_of_parts : NumberOfParts
number_of_parts n h = simp (le-leb _ _ (source_most n), le-leb _ _ (dest_most n), le-leb _ _ (promotion_most n h), number_of_its_parts n)

pub parts_of_number : PartsOfNumber
parts_of_number m h = go (leb m.source 63) (leb m.dest 63) (leb m.promotion 6) refl refl refl
  where
    go : (s d p : Bool) → leb m.source 63 ≡ s → leb m.dest 63 ≡ d → leb m.promotion 6 ≡ p →
        ((number_answer m).value ≤ last_move) × (move_of (number_answer m).value ≡ m)
    go true true true es ed ep =
        let hs = leb-true _ _ es in
        let hd = leb-true _ _ ed in
        let hp = leb-true _ _ ep in
        simp (es, ed, ep) (
          number_most m.source m.dest m.promotion hs hd hp,
          simp (
            source_of_number m.source m.dest m.promotion hs hd,
            dest_of_number m.source m.dest m.promotion hs hd,
            promotion_of_number m.source m.dest m.promotion hs hd,
          ),
        )
    go true true false es ed ep = absurd (omega (arith, simp (es, ed, ep) at h))
    go true false p es ed ep = absurd (omega (arith, simp (es, ed) at h))
    go false d p es ed ep = absurd (omega (arith, simp es at h))
