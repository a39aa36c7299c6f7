-- The capture rules of both forms as one, for an entry whose man is the text's; and that the one entry that fits is such an entry.
-- Assumes nothing.
use Prim.Native.Nat.{ℕ, ◌+◌, ◌*◌, ◌%◌}
use mathlib.Core.Path.{◌≡◌, refl, ap, ◌∙◌}
use mathlib.Core.Bool.{Bool, true, false, cond, not, ◌&&◌, ◌||◌}
use mathlib.Core.List.{List}
use native.Mathlib.Omega.{arith}
use lib.Dec.{eqb, ltb}
use borrow.Author.Tests.{eq-eqb, ne_eqb, eqb-true}
use Rattle.std.specs.Prelude.{Some, None}
use Rattle.board_builder.specs.declared.BoardBuilder.{BoardBuilder}
use Rattle.chess_move.specs.Number.{source_of, dest_of}
use Rattle.move_list.specs.MoveList.{count, first_of}
use Rattle.move_list.proofs.Counting.{first_passes}
use Rattle.san_text.specs.declared.San.{San}
use Rattle.san_text.specs.declared.SanText.TheVariants.{KingSide, QueenSide, Move}
use Rattle.san_text.specs.Text.{Said}
use Rattle.san_text.specs.Place.{given}
use Rattle.san_text.specs.Resolve.{kind_on, empty_on, fits, capture_test}
use Rattle.san_text.specs.Name.{changes_files, takes_of}
use Rattle.san_text.specs.Form.{castled, resolved}
use Rattle.san_text.specs.Standard.{standard_captures, standard_castles}
use Rattle.san_text.specs.Forms.{form_of}
use Rattle.san.specs.CodeFitting.{board_with}
use Rattle.san.specs.CodeGathered.{number_if, kind_fits, passing, passed}

-- ---- the rules, over what they look at: the form, `x` and the mark in the text; whether the destination is empty, the man a pawn, its file kept; and
-- whether the text has a file

abbrev rule : Bool → Bool → Bool → Bool → Bool → Bool → Bool → Bool
rule true x mark empty pawn straight file = cond (not empty || (pawn && not straight)) (x && (not pawn || file)) (not x)
rule false x mark empty pawn straight file = cond x (mark || not empty) empty

rule_other : (form x mark empty straight file : Bool) → rule form x mark empty false straight file ≡ cond x ((not form && mark) || not empty) (not (not empty))
rule_other true true mark true straight file = refl
rule_other true true mark false straight file = refl
rule_other true false mark true straight file = refl
rule_other true false mark false straight file = refl
rule_other false true mark empty straight file = refl
rule_other false false mark true straight file = refl
rule_other false false mark false straight file = refl

rule_pawn : (form x mark empty straight file : Bool) → rule form x mark empty true straight file ≡ cond x
    ((not form && mark) || ((not empty || (form && not straight)) && (not form || file))) (not (not empty || (form && not straight)))
rule_pawn true true mark true true file = refl
rule_pawn true true mark true false file = refl
rule_pawn true true mark false straight file = refl
rule_pawn true false mark true true file = refl
rule_pawn true false mark true false file = refl
rule_pawn true false mark false straight file = refl
rule_pawn false true mark true straight file = refl
rule_pawn false true mark false straight file = refl
rule_pawn false false mark true straight file = refl
rule_pawn false false mark false straight file = refl

module _ (form : Bool) (pieces : List ℕ) (t : San) (m : ℕ) (h : kind_on pieces (source_of m) ≡ t.piece) where
  -- the form's test, the man being a pawn or not
  abbrev with : Bool → Bool
  with pawn = rule form t.takes t.mark (empty_on pieces (dest_of m)) pawn (eqb (source_of m % 8) (dest_of m % 8)) (given t.file)

  form_rule : (form_of form).captures pieces t m ≡ with (eqb t.piece 1)
  unfolding standard_captures takes_of changes_files capture_test
  form_rule = go form
    where
      go : (f : Bool) → (form_of f).captures pieces t m
          ≡ rule f t.takes t.mark (empty_on pieces (dest_of m)) (eqb t.piece 1) (eqb (source_of m % 8) (dest_of m % 8)) (given t.file)
      go true = rw h
      go false = refl

  pub captures_other : (t.piece ≡ 1 → ⊥) → (form_of form).captures pieces t m ≡ cond t.takes
      ((not form && t.mark) || not (empty_on pieces (dest_of m))) (not (not (empty_on pieces (dest_of m))))
  captures_other n = form_rule ∙ ap with (ne_eqb _ _ n) ∙ rule_other form t.takes t.mark _ _ _

  pub captures_pawn : t.piece ≡ 1 → (form_of form).captures pieces t m ≡ cond t.takes
      ((not form && t.mark) || ((not (empty_on pieces (dest_of m)) || (form && not (eqb (source_of m % 8) (dest_of m % 8)))) && (not form || given t.file)))
      (not (not (empty_on pieces (dest_of m)) || (form && not (eqb (source_of m % 8) (dest_of m % 8)))))
  captures_pawn e = form_rule ∙ ap with (eq-eqb _ _ e) ∙ rule_pawn form t.takes t.mark _ _ _

-- ---- the one entry that fits

fits_kind : (pieces : List ℕ) (t : San) (m : ℕ) → fits pieces t m ≡ true → kind_on pieces (source_of m) ≡ t.piece
unfolding fits
fits_kind pieces t m e = go (eqb (kind_on pieces (source_of m)) t.piece) refl _ e
  where
    go : (b : Bool) → eqb (kind_on pieces (source_of m)) t.piece ≡ b → (x : Bool) → b && x ≡ true → kind_on pieces (source_of m) ≡ t.piece
    go true w x k = eqb-true _ _ w
    go false w x k =
        let n : ◌≡◌ {A = ℕ} 0 1 = cc in
        absurd (omega arith)

pub sole_kind : (pieces : List ℕ) (t : San) (l : List ℕ) → count (fits pieces t) l ≡ 1 → kind_on pieces (source_of (first_of (fits pieces t) l)) ≡ t.piece
sole_kind pieces t l e = fits_kind pieces t (first_of (fits pieces t) l) (first_passes (fits pieces t) l (omega arith))

pub kind_here : (pieces : List ℕ) (t : San) (d source : ℕ) → kind_fits pieces t source ≡ true → kind_on pieces (source_of (d * 64 + source % 64)) ≡ t.piece
unfolding kind_fits
kind_here pieces t d source e =
    let s : source_of (d * 64 + source % 64) ≡ source_of source = omega arith in
    rw s (eqb-true _ _ e)

-- of up to three sources, the only one that passes
pub sole_passes : (f : ℕ → Bool) (n x y z : ℕ) → passing f n x y z ≡ 1 → f (passed f n x y z) ≡ true
sole_passes f n x y z e =
    go (ltb 0 n && f x) (ltb 1 n && f y) (ltb 2 n && f z) (right (ltb 0 n) (f x)) (right (ltb 1 n) (f y)) (right (ltb 2 n) (f z)) e
  where
    right : (a b : Bool) → a && b ≡ true → b ≡ true
    right true b k = k
    right false b k =
        let n : ◌≡◌ {A = ℕ} 0 1 = cc in
        absurd (omega arith)

    go : (a b c : Bool) → (a ≡ true → f x ≡ true) → (b ≡ true → f y ≡ true) → (c ≡ true → f z ≡ true)
        → number_if a 1 + number_if b 1 + number_if c 1 ≡ 1 → f (number_if a x + number_if b y + number_if c z) ≡ true
    go true false false p q r k = let s : x + 0 + 0 ≡ x = omega arith in rw s (p refl)
    go false true false p q r k = let s : 0 + y + 0 ≡ y = omega arith in rw s (q refl)
    go false false true p q r k = let s : 0 + 0 + z ≡ z = omega arith in rw s (r refl)
    go true true c p q r k = absurd (omega arith)
    go true false true p q r k = absurd (omega arith)
    go false true true p q r k = absurd (omega arith)
    go false false false p q r k = absurd (omega arith)

-- ---- of a record only its side and its squares count

castles_with : (form : Bool) (b : BoardBuilder) → (form_of form).castles (board_with b.side_to_move b.pieces) ≡ (form_of form).castles b
unfolding standard_castles
castles_with true b = refl
castles_with false b = refl

pub resolved_with : (form : Bool) (b : BoardBuilder) (l : List ℕ) (said : Said)
    → resolved (form_of form) (board_with b.side_to_move b.pieces) l said ≡ resolved (form_of form) b l said
unfolding resolved castled
resolved_with form b l (Some KingSide) = rw (castles_with form b)
resolved_with form b l (Some QueenSide) = rw (castles_with form b)
resolved_with form b l (Some (Move t)) = refl
resolved_with form b l None = refl
