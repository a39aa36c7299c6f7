-- Laws of the used front of a part: it grows by an item, its last piece is known, and what is written right behind it is used with it.
-- Assumes nothing.
use mathlib.Core.Path.{◌≡◌, refl, ap, sym, ◌∙◌}
use mathlib.Core.List.{List, ◌++◌}
use Prim.Native.Nat.{ℕ, suc, ◌+◌, ◌*◌}
use native.Mathlib.Nat.{mul-suc}
use native.Mathlib.Omega.{arith}
use lib.ListN.{length, take, drop, length-append, length-take}
use lib.Seq.{take_at, drop_at, take-add}
use Rattle.answer.specs.Parts.{item, written}

-- one more item of a size: the used part grows by it
pub used_grows : (size n : ℕ) (bs : List ℕ) → take (size * suc n) bs ≡ take (size * n) bs ++ item size bs n
used_grows size n bs = let e : size * suc n ≡ size * n + size = mul-suc size n in rw e (take-add (size * n) size bs)

-- two lists whose fronts are equally long are equal piece by piece
fronts : (a b x y : List ℕ) → length a ≡ length b → a ++ x ≡ b ++ y → (a ≡ b) × (x ≡ y)
fronts a b x y h e = (
  sym (take_at a x (length a) refl) ∙ ap (take (length a)) e ∙ take_at b y (length a) (sym h),
  sym (drop_at a x (length a) refl) ∙ ap (drop (length a)) e ∙ drop_at b y (length a) (sym h),
)

-- a used part that is a front and a last piece: both are there
pub last_piece : (used : ℕ) (bs front x : List ℕ) → length front ≡ used → take (used + length x) bs ≡ front ++ x
    → (take used bs ≡ front) × (take (length x) (drop used bs) ≡ x)
last_piece used bs front x h e =
    let l : length (take (used + length x) bs) ≡ used + length x = ap length e ∙ length-append front x ∙ omega (arith, h) in
    let f : length (take used bs) ≡ used = length-take used bs ∙ omega (arith, sym (length-take (used + length x) bs) ∙ l) in
    fronts (take used bs) front (take (length x) (drop used bs)) x (f ∙ sym h) (sym (take-add used (length x) bs) ∙ e)

-- what is written right behind the used part is used with it
pub used_written : (l xs front : List ℕ) (at : ℕ) → length front ≡ at → take at l ≡ front → take (at + length xs) (written l at xs) ≡ front ++ xs
used_written l xs front at h e =
    let n : length (take at l ++ xs) ≡ at + length xs = length-append (take at l) xs ∙ ap (λ (k : ℕ). k + length xs) (ap length e ∙ h) in
    take_at (take at l ++ xs) (drop (at + length xs) l) (at + length xs) n ∙ ap (λ (f : List ℕ). f ++ xs) e
