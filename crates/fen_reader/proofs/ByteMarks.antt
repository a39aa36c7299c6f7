-- What a byte's mark says: a slash, a digit, a piece's letter, or none of these. And the table that the reader fills: it holds each byte's mark.
-- Assumes nothing.
use mathlib.Core.Path.{◌≡◌, refl, sym, ◌∙◌}
use mathlib.Core.Bool.{Bool, true, false}
use Prim.Native.Nat.{ℕ, ◌+◌, ◌*◌, ◌-◌, ◌≤◌, ◌<◌}
use native.Mathlib.Decide.{dec_le}
use native.Mathlib.Omega.{arith}
use lib.Dec.{eqb, eqb→eq}
use lib.ListN.{length, get_or}
use borrow.Author.Tests.{eq-eqb, ne_eqb, le-leb, lt-leb}
use Rattle.answer.specs.Ascii.{ascii}
use Rattle.answer.specs.Numbers.{between}
use Rattle.answer.specs.Numbers.{among}
use Rattle.square.specs.Piece.{piece_of}
use Rattle.answer.proofs.Below.{below, agree}
use Rattle.fen_text.specs.Placement.{is_no_sign}
use Rattle.fen_reader.specs.CodeMarks.{slash_mark, no_mark, byte_mark, mark_all, marked}

-- what a byte is
pub data Kind (b : ℕ) : Type 0 where
  slash : b ≡ 47 → Kind b
  digit : 49 ≤ b → b ≤ 56 → Kind b
  letter : eqb b 47 ≡ false → between 49 56 b ≡ false → eqb (piece_of b) 0 ≡ false → Kind b
  other : eqb b 47 ≡ false → between 49 56 b ≡ false → eqb (piece_of b) 0 ≡ true → Kind b

kind_by : (b : ℕ) (s t : Bool) → eqb b 47 ≡ false → between 49 56 b ≡ s → eqb (piece_of b) 0 ≡ t → s ≡ false → Kind b
kind_by b s true e f g h = other e (f ∙ h) g
kind_by b s false e f g h = letter e (f ∙ h) g

kind_low : (b : ℕ) → (b ≡ 47 → ⊥) → Dec (49 ≤ b) → Dec (b ≤ 56) → Kind b
kind_low b n (yes l) (yes h) = digit l h
kind_low b n (yes l) (no h) =
    let far : 56 < b = omega arith in
    kind_by b (between 49 56 b) (eqb (piece_of b) 0) (ne_eqb _ _ n) refl refl (simp (le-leb _ _ l, lt-leb _ _ far))
kind_low b n (no l) h =
    let far : b < 49 = omega arith in
    kind_by b (between 49 56 b) (eqb (piece_of b) 0) (ne_eqb _ _ n) refl refl (simp (lt-leb _ _ far))

kind_slash : (b : ℕ) → Dec (b ≤ 46) → Dec (b ≤ 47) → Kind b
kind_slash b (yes l) h = kind_low b (λ e. omega arith) (dec_le 49 b) (dec_le b 56)
kind_slash b (no l) (yes h) = slash (omega arith)
kind_slash b (no l) (no h) = kind_low b (λ e. omega arith) (dec_le 49 b) (dec_le b 56)

pub kind : (b : ℕ) → Kind b
kind b = kind_slash b (dec_le b 46) (dec_le b 47)

-- the marks of each
pub mark_slash : (b : ℕ) → b ≡ 47 → byte_mark b ≡ slash_mark
unfolding byte_mark
mark_slash b e = simp (eq-eqb _ _ e)

pub mark_digit : (b : ℕ) → 49 ≤ b → b ≤ 56 → byte_mark b ≡ b - 48
unfolding byte_mark
mark_digit b l h =
    let n : b ≡ 47 → ⊥ = λ e. omega arith in
    simp (ne_eqb _ _ n, le-leb _ _ l, le-leb _ _ h)

pub mark_letter : (b : ℕ) → eqb b 47 ≡ false → between 49 56 b ≡ false → eqb (piece_of b) 0 ≡ false → byte_mark b ≡ piece_of b * 16 + 1
unfolding byte_mark
mark_letter b e f g = rw (e, f, g)

pub mark_other : (b : ℕ) → eqb b 47 ≡ false → between 49 56 b ≡ false → eqb (piece_of b) 0 ≡ true → byte_mark b ≡ no_mark
unfolding byte_mark
mark_other b e f g = rw (e, f, g)

-- 256 bytes, each computed
right : ℕ → Bool
right b = eqb (get_or marked b 0) (byte_mark b)

pub mark_at : (b : ℕ) → b < 256 → get_or marked b 0 ≡ byte_mark b
unfolding right mark_all ascii byte_mark piece_of
mark_at b h = eqb→eq (get_or marked b 0) (byte_mark b) (below right 256 tt b h)

pub table_long : length marked ≡ 256
unfolding mark_all ascii
table_long = refl

-- a byte is bad exactly if its mark is no_mark
bad_mark : (b : ℕ) → b < 256 → is_no_sign b ≡ eqb (byte_mark b) no_mark
unfolding among ascii byte_mark piece_of
bad_mark b h = agree is_no_sign (λ (x : ℕ). eqb (byte_mark x) no_mark) 256 tt b h

pub mark_bad : (b m : ℕ) → b < 256 → m ≡ byte_mark b → m ≡ no_mark → is_no_sign b ≡ true
mark_bad b m h e r = bad_mark b h ∙ eq-eqb _ _ (sym e ∙ r)

pub mark_good : (b m : ℕ) → b < 256 → m ≡ byte_mark b → (m ≡ no_mark → ⊥) → is_no_sign b ≡ false
mark_good b m h e n = bad_mark b h ∙ ne_eqb _ _ (λ r. n (e ∙ r))
