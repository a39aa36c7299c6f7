-- Whether a record follows from another by a move, number by number: what the test of a stored record settles at each of its returns.
-- Assumes nothing.
use mathlib.Core.Path.{◌≡◌, refl, ap, sym, ◌∙◌}
use mathlib.Core.Bool.{Bool, true, false, ◌&&◌, false≢true}
use mathlib.Core.List.{List, [], ◌∷◌, ◌++◌}
use Prim.Native.Nat.{ℕ, ◌/◌, ◌%◌, ◌<◌, ◌≤◌}
use native.Mathlib.Omega.{arith}
use lib.Dec.{eqb}
use lib.ListN.{length, get_or, take, length-take, length-append}
use lib.Seq.{take_all}
use borrow.Author.Tests.{le-leb, lt-leb, eqb-true, eqb-false}
use Rattle.square.specs.Piece.{man_on}
use Rattle.answer.specs.Numbers.{same}
use Rattle.answer.proofs.Numbers.{both_left, both_right}
use Rattle.answer.proofs.Same.{same_lengths}
use Rattle.board_builder.specs.declared.BoardBuilder.{BoardBuilder}
use Rattle.board_builder.specs.BoardBuilder.{board_of, numbers, record_size}
use Rattle.move_rules.specs.After.{squares_after, rights_after, side_after, file_after, after_parts, board_after, record_after}
use Rattle.move_rules.specs.Leads.{comes_from, leads_to}
use Rattle.move_rules.proofs.Squares.{squares_length}
use Rattle.move_rules.proofs.Records.{record_split, off_side, off_white, off_black, off_file, by_squares}

-- records p and q, and move m, with its source and its destination
module _ (p q : List ℕ) (m : ℕ) (hp : length p ≡ record_size) (hq : length q ≡ record_size) where
  abbrev b : BoardBuilder
  b = board_after (board_of p) m

  abbrev source : ℕ
  source = m % 64

  abbrev dest : ℕ
  dest = m / 64 % 64

  abbrev white : ℕ
  white = rights_after 0 (get_or p 65 0) source dest

  abbrev black : ℕ
  black = rights_after 1 (get_or p 66 0) source dest

  abbrev file : ℕ
  file = file_after (take 64 p) (man_on (take 64 p) source) source dest

  abbrev answer : Bool
  answer = same q (record_after p m)

  abbrev given : List ℕ
  given = take 64 q ++ (get_or q 64 0 ∷ get_or q 65 0 ∷ get_or q 66 0 ∷ get_or q 67 0 ∷ [])

  as_given : same given (record_after p m) ≡ answer
  as_given = ap (λ (l : List ℕ). same l (record_after p m)) (sym (record_split q (omega arith)) ∙ take_all record_size q (omega arith))

  as_long : length (take 64 q) ≡ length b.pieces
  unfolding after_parts
  as_long =
      let kept : length (squares_after (take 64 p) source dest (m / 4096)) ≡ length (take 64 p) = squares_length (take 64 p) source dest (m / 4096) in
      omega (arith, kept, length-take 64 p, length-take 64 q)

  pub not_side : (s : ℕ) → s ≡ side_after (get_or p 64 0) → (get_or q 64 0 ≡ s → ⊥) → false ≡ answer
  unfolding record_after after_parts
  not_side s e n = off_side (take 64 q) _ _ _ _ b as_long (λ f. n (f ∙ sym e)) ∙ as_given

  pub not_rights : eqb (get_or q 65 0) white && eqb (get_or q 66 0) black ≡ false → false ≡ answer
  unfolding record_after after_parts
  not_rights e = go (eqb (get_or q 65 0) white) refl (eqb (get_or q 66 0) black) refl e
    where
      go : (x : Bool) → eqb (get_or q 65 0) white ≡ x → (y : Bool) → eqb (get_or q 66 0) black ≡ y → x && y ≡ false → false ≡ answer
      go false ex y ey h = off_white (take 64 q) _ _ _ _ b as_long (eqb-false _ _ ex) ∙ as_given
      go true ex false ey h = off_black (take 64 q) _ _ _ _ b as_long (eqb-false _ _ ey) ∙ as_given
      go true ex true ey h = absurd (false≢true (sym h))

  pub not_file : (r : ℕ) → r ≡ file → (get_or q 67 0 ≡ r → ⊥) → false ≡ answer
  unfolding record_after after_parts
  not_file r e n = off_file (take 64 q) _ _ _ _ b as_long (λ f. n (f ∙ sym e)) ∙ as_given

  pub so_by_squares : (s r : ℕ) → s ≡ side_after (get_or p 64 0) → get_or q 64 0 ≡ s
      → eqb (get_or q 65 0) white && eqb (get_or q 66 0) black ≡ true
      → r ≡ file → get_or q 67 0 ≡ r
      → same (take 64 q) (squares_after (take 64 p) source dest (m / 4096)) ≡ answer
  unfolding record_after after_parts
  so_by_squares s r es u rights er v =
      by_squares (take 64 q) _ _ _ _ b as_long (u ∙ es)
      (eqb-true _ _ (both_left (eqb (get_or q 65 0) white) (eqb (get_or q 66 0) black) rights))
      (eqb-true _ _ (both_right (eqb (get_or q 65 0) white) (eqb (get_or q 66 0) black) rights))
      (v ∙ er)
      ∙ as_given

-- a record after a move has as many numbers as the one before it
after_long : (p : List ℕ) (m : ℕ) → record_size ≤ length p → length (record_after (take record_size p) m) ≡ record_size
unfolding record_after numbers after_parts
after_long p m h =
    let l : List ℕ = take 64 (take record_size p) in
    let squares-kept : length (squares_after l (m % 64) (m / 64 % 64) (m / 4096)) ≡ length l = squares_length l (m % 64) (m / 64 % 64) (m / 4096) in
    let sixty-four : length l ≡ 64 = omega (arith, length-take 64 (take record_size p), length-take record_size p) in
    simp (length-append, squares-kept, sixty-four)

-- bytes that are too short for a record, and bytes that have one in front
module _ (p : List ℕ) (m : ℕ) where
  pub none_before : (l : List ℕ) → length p < record_size → false ≡ comes_from p m l
  unfolding comes_from
  none_before l short = rw (lt-leb record_size (length p) short)

  module _ (h : record_size ≤ length p) where
    pub from_record : (l : List ℕ) → same l (record_after (take record_size p) m) ≡ comes_from p m l
    unfolding comes_from
    from_record l = rw (le-leb record_size (length p) h)

    pub none_after : (q : List ℕ) → length q < record_size → false ≡ leads_to p m q
    none_after q short =
        sym (same_lengths (take record_size q) (record_after (take record_size p) m) (λ f. omega (arith, length-take record_size q, after_long p m h, f)))
        ∙ from_record (take record_size q)
