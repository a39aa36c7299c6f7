-- Laws of the parts behind the placement, by the bytes that the code pushes: the rights' letters, the en passant square; and how long they
-- are.
-- Assumes nothing.
use mathlib.Core.Path.{◌≡◌, sym, ap, ◌∙◌}
use mathlib.Core.Bool.{Bool, true, cond}
use mathlib.Core.List.{List, [], ◌∷◌, ◌++◌}
use Prim.Native.Nat.{ℕ, zero, suc, ◌+◌, ◌-◌, ◌/◌, ◌%◌, ◌≤◌, ◌<◌}
use native.Mathlib.Omega.{arith}
use lib.Dec.{eqb, eqb-suc-zero, lit<}
use lib.ListN.{length}
use borrow.Author.Tests.{eq-eqb, ne_eqb}
use Rattle.answer.specs.Numbers.{same}
use Rattle.square.specs.Square.{square_text, square_of}
use Rattle.answer.proofs.Below.{belows, holds}
use Rattle.answer.proofs.Same.{same_eq}
use Rattle.castle_rights.specs.CastleRights.{letters_of, letters_text}
use Rattle.fen_text.specs.Write.{rights_text, en_passant_text}
use Rattle.board_builder.specs.declared.BoardBuilder.{BoardBuilder}
use Rattle.board_builder.specs.BoardBuilder.{in_range}
use Rattle.board_builder.proofs.Ranges.{in_range_lem}
use Rattle.fen_text.proofs.Lengths.{rights_long, en_passant_long}
use Rattle.answer.specs.CodePushed.{Put}
use Rattle.answer.proofs.Pushes.{put_both, put_as}

-- one letter where its test holds
abbrev pub letter_if : Bool → ℕ → List ℕ
letter_if there b = cond there (b ∷ []) []

-- the four letters that hold, and `-` where there is none
abbrev four_text : ℕ → ℕ → List ℕ
four_text w b = letter_if (eqb (w % 2) 1) 75 ++ (letter_if (eqb (w / 2) 1) 81 ++ (letter_if (eqb (b % 2) 1) 107 ++ letter_if (eqb (b / 2) 1) 113))

-- sixteen pairs, each computed
rights_are : (w b : ℕ) → w < 4 → b < 4 → four_text w b ++ letter_if (eqb (length (four_text w b)) 0) 45 ≡ rights_text w b
unfolding rights_text letters_text letters_of same
rights_are w b h k =
    same_eq _ _ (holds _ (belows (λ (w b : ℕ). same (four_text w b ++ letter_if (eqb (length (four_text w b)) 0) 45) (rights_text w b)) 4 4 tt w b h k))

added : (n m : ℕ) → eqb (n + m) n ≡ eqb m 0
added n zero = eq-eqb (n + 0) n (omega arith)
added n (suc m) = ne_eqb (n + suc m) n (λ e. omega arith) ∙ sym (eqb-suc-zero m)

pub rights_put : {s0 s1 s2 s3 s4 s5 : List ℕ} {at a b c d r : ℕ} (white black : ℕ) → white < 4 → black < 4
    → Put 91 s0 at (letter_if (eqb (white % 2) 1) 75) s1 a
    → Put 91 s1 a (letter_if (eqb (white / 2) 1) 81) s2 b
    → Put 91 s2 b (letter_if (eqb (black % 2) 1) 107) s3 c
    → Put 91 s3 c (letter_if (eqb (black / 2) 1) 113) s4 d
    → Put 91 s4 d (letter_if (eqb d at) 45) s5 r
    → Put 91 s0 at (rights_text white black) s5 r
rights_put {at = at} {d = d} white black h k p q s t u =
    let four = put_both p (put_both q (put_both s t)) in
    let none : eqb d at ≡ eqb (length (four_text white black)) 0 = rw four.pushed.count (added at (length (four_text white black))) in
    put_as (ap (λ (x : Bool). four_text white black ++ letter_if x 45) none ∙ rights_are white black h k) (put_both four u)

-- the square's bytes for each file, computed
file_text : (rank file : ℕ) → rank < 8 → file < 8 → square_text (square_of rank file) ≡ (97 + file) ∷ (49 + rank) ∷ []
unfolding same
file_text rank file h k =
    same_eq _ _ (holds _ (belows (λ (r f : ℕ). same (square_text (square_of r f)) ((97 + f) ∷ (49 + r) ∷ [])) 8 8 tt rank file h k))

pub no_file : (side file : ℕ) → file ≡ 0 → 45 ∷ [] ≡ en_passant_text side file
unfolding en_passant_text
no_file side file e = simp (eq-eqb _ _ e)

pub white_file : (side file : ℕ) → file < 9 → (file ≡ 0 → ⊥) → side ≡ 0 → (97 + (file - 1)) ∷ 54 ∷ [] ≡ en_passant_text side file
unfolding en_passant_text
white_file side file h e s = simp (ne_eqb _ _ e, eq-eqb _ _ s) (sym (file_text 5 (file - 1) (lit< tt) (omega arith)))

pub black_file : (side file : ℕ) → file < 9 → (file ≡ 0 → ⊥) → (side ≡ 0 → ⊥) → (97 + (file - 1)) ∷ 51 ∷ [] ≡ en_passant_text side file
unfolding en_passant_text
black_file side file h e s = simp (ne_eqb _ _ e, ne_eqb _ _ s) (sym (file_text 2 (file - 1) (lit< tt) (omega arith)))

-- the numbers of a record in range, and the greatest length of their texts
pub record Small (b : BoardBuilder) : Type 0 where
  pub white : b.white_castle_rights < 4
  pub black : b.black_castle_rights < 4
  pub file : b.en_passant < 9
  pub rights : length (rights_text b.white_castle_rights b.black_castle_rights) ≤ 4
  pub square : length (en_passant_text b.side_to_move b.en_passant) ≤ 2

pub small : (b : BoardBuilder) → in_range b ≡ true → Small b
small b e =
    let r = in_range_lem b e in
    let white : b.white_castle_rights < 4 = omega arith in
    let black : b.black_castle_rights < 4 = omega arith in
    record {
      white = white;
      black = black;
      file = omega arith;
      rights = (rights_long b.white_castle_rights b.black_castle_rights white black).high;
      square = (en_passant_long b.side_to_move b.en_passant).high;
    }
