-- Two records as lists of numbers: they are equal exactly if their squares and their four other numbers are.
-- Assumes nothing.
use mathlib.Core.Path.{◌≡◌, refl, ap, sym, ◌∙◌}
use mathlib.Core.Bool.{Bool, true, false, ◌&&◌, and-true, and-false}
use mathlib.Core.List.{List, [], ◌∷◌, ◌++◌}
use Prim.Native.Nat.{ℕ, ◌≤◌}
use native.Mathlib.Omega.{arith}
use lib.Dec.{eqb}
use lib.ListN.{length, get_or, take}
use lib.Seq.{drop-cons, take-add, take-take, get_or-take}
use borrow.Author.Tests.{eq-eqb, ne_eqb, eqb-true}
use Rattle.answer.specs.Numbers.{same}
use Rattle.board_builder.specs.declared.BoardBuilder.{BoardBuilder}
use Rattle.board_builder.specs.BoardBuilder.{board, numbers, record_size, board_of, in_range, numbers_in_range}
use Rattle.answer.proofs.Numbers.{both_left, both_right}

same_append : (a b x y : List ℕ) → length a ≡ length b → same (a ++ x) (b ++ y) ≡ same a b && same x y
unfolding same
same_append [] [] x y h = refl
same_append [] (d ∷ b) x y h = absurd (omega arith)
same_append (c ∷ a) [] x y h = absurd (omega arith)
same_append (c ∷ a) (d ∷ b) x y h = go (eqb c d) (same_append a b x y (omega arith))
  where
    go : (t : Bool) → same (a ++ x) (b ++ y) ≡ same a b && same x y → t && same (a ++ x) (b ++ y) ≡ (t && same a b) && same x y
    go true e = e
    go false e = refl

-- the first 68 of some bytes
pub record_split : (q : List ℕ) → record_size ≤ length q
    → take record_size q ≡ take 64 q ++ (get_or q 64 0 ∷ get_or q 65 0 ∷ get_or q 66 0 ∷ get_or q 67 0 ∷ [])
record_split q h =
    take-add 64 4 q
    ∙ ap (λ (l : List ℕ). take 64 q ++ take 4 l)
    (drop-cons q 64 0 (omega arith)
    ∙ ap (λ (l : List ℕ). get_or q 64 0 ∷ l) (drop-cons q 65 0 (omega arith)
    ∙ ap (λ (l : List ℕ). get_or q 65 0 ∷ l) (drop-cons q 66 0 (omega arith)
    ∙ ap (λ (l : List ℕ). get_or q 66 0 ∷ l) (drop-cons q 67 0 (omega arith)))))

-- the record in front of some bytes, read from them in place
pub board_front : (p : List ℕ) → record_size ≤ length p
    → board (take 64 p) (get_or p 64 0) (get_or p 65 0) (get_or p 66 0) (get_or p 67 0) ≡ board_of (take record_size p)
board_front p h =
    rw (
      take-take 64 record_size p (omega arith),
      get_or-take record_size p 64 0 (omega arith),
      get_or-take record_size p 65 0 (omega arith),
      get_or-take record_size p 66 0 (omega arith),
      get_or-take record_size p 67 0 (omega arith),
    )

-- the numbers of a record in range
pub record_long : (p : List ℕ) → numbers_in_range p ≡ true → length p ≡ record_size
unfolding numbers_in_range
record_long p e = eqb-true (length p) record_size (both_left (eqb (length p) record_size) (in_range (board_of p)) e)

pub record_range : (p : List ℕ) → numbers_in_range p ≡ true → in_range (board_of p) ≡ true
unfolding numbers_in_range
record_range p e = both_right (eqb (length p) record_size) (in_range (board_of p)) e

module _ (l : List ℕ) (side white black file : ℕ) (b : BoardBuilder) (h : length l ≡ length b.pieces) where
  abbrev given : List ℕ
  given = l ++ (side ∷ white ∷ black ∷ file ∷ [])

  five_tests : same given (numbers b)
      ≡ same l b.pieces && (eqb side b.side_to_move
      && (eqb white b.white_castle_rights && (eqb black b.black_castle_rights && (eqb file b.en_passant && true))))
  unfolding same numbers
  five_tests = same_append l b.pieces _ _ h

  pub off_side : (side ≡ b.side_to_move → ⊥) → false ≡ same given (numbers b)
  off_side n = sym (five_tests ∙ simp (ne_eqb _ _ n, and-false))

  pub off_white : (white ≡ b.white_castle_rights → ⊥) → false ≡ same given (numbers b)
  off_white n = sym (five_tests ∙ simp (ne_eqb _ _ n, and-false))

  pub off_black : (black ≡ b.black_castle_rights → ⊥) → false ≡ same given (numbers b)
  off_black n = sym (five_tests ∙ simp (ne_eqb _ _ n, and-false))

  pub off_file : (file ≡ b.en_passant → ⊥) → false ≡ same given (numbers b)
  off_file n = sym (five_tests ∙ simp (ne_eqb _ _ n, and-false))

  pub by_squares : side ≡ b.side_to_move → white ≡ b.white_castle_rights → black ≡ b.black_castle_rights → file ≡ b.en_passant
      → same l b.pieces ≡ same given (numbers b)
  by_squares s w k f = sym (five_tests ∙ simp (eq-eqb _ _ s, eq-eqb _ _ w, eq-eqb _ _ k, eq-eqb _ _ f, and-true))
