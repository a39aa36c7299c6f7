-- Laws of items in a part, and of bytes written over others.
-- Assumes nothing.
use mathlib.Core.Path.{◌≡◌, ap, ap₂, sym, ◌∙◌}
use mathlib.Core.List.{List, [], ◌∷◌, ◌++◌, append-nil, append_assoc}
use Prim.Native.Nat.{ℕ, suc, ◌+◌, ◌*◌, ◌≤◌, ◌<◌}
use native.Mathlib.Omega.{arith}
use lib.ListN.{length, set, take, drop, get_or}
use lib.ListN.{length-append, length-take, length-drop, take-append-drop}
use lib.Seq.{set_split, append_snoc, take_at, drop_at, drop-drop, get_or-take, get_or-drop}
use Rattle.answer.specs.Parts.{item, written}

-- an item that lies in the part is whole
pub length_item : (size k : ℕ) (part : List ℕ) → size * k + size ≤ length part → length (item size part k) ≡ size
length_item size k part h = simp (length-take, length-drop) (omega arith)

-- a number of an item is that number of the list
pub of_item : (l : List ℕ) (size k i : ℕ) → i < size → get_or l (size * k + i) 0 ≡ get_or (item size l k) i 0
of_item l size k i h = sym (get_or-take size (drop (size * k) l) i 0 h ∙ get_or-drop (size * k) l i 0)

-- ---- bytes written over others

pub written_none : (l : List ℕ) (at : ℕ) → l ≡ written l at []
written_none l at =
    let e : at + 0 ≡ at = omega arith in
    sym (rw (append-nil, e) (take-append-drop at l))

pub set_written : (l : List ℕ) (i v : ℕ) → i < length l → set l i v ≡ written l i (v ∷ [])
set_written l i v h =
    let e : i + 1 ≡ suc i = omega arith in
    set_split l i v h ∙ rw e (sym (append_snoc (take i l) v (drop (suc i) l)))

module _ (l : List ℕ) (at : ℕ) (xs : List ℕ) (fits : at + length xs ≤ length l) where
  length_head : length (take at l ++ xs) ≡ at + length xs
  length_head = simp (length-append, length-take) (omega arith)

  pub length_written : length (written l at xs) ≡ length l
  length_written = simp (length-append, length-take, length-drop) (omega arith)

  -- what is written right behind is written with it
  written_more : (ys : List ℕ) → at + length xs + length ys ≤ length l → written (written l at xs) (at + length xs) ys ≡ written l at (xs ++ ys)
  written_more ys h =
      let w : List ℕ = written l at xs in
      let a : take (at + length xs) w ≡ take at l ++ xs = take_at (take at l ++ xs) (drop (at + length xs) l) (at + length xs) length_head in
      let b : drop (at + length xs) w ≡ drop (at + length xs) l = drop_at (take at l ++ xs) (drop (at + length xs) l) (at + length xs) length_head in
      let d : drop (at + length xs + length ys) w ≡ drop (at + length xs + length ys) l =
      sym (drop-drop (length ys) (at + length xs) w) ∙ ap (drop (length ys)) b ∙ drop-drop (length ys) (at + length xs) l in
      let n : at + length (xs ++ ys) ≡ at + length xs + length ys = omega (arith, length-append xs ys) in
      ap₂ (λ (f g : List ℕ). f ++ ys ++ g) a d ∙ rw (n, append_assoc (take at l) xs ys)

  -- the same at a place that is known to be right behind
  pub written_behind : (i : ℕ) (ys : List ℕ) → at + length xs ≡ i → i + length ys ≤ length l → written (written l at xs) i ys ≡ written l at (xs ++ ys)
  written_behind i ys e h = ap (λ (j : ℕ). written (written l at xs) j ys) (sym e) ∙ written_more ys (omega arith)

  -- one more byte
  pub written_next : (i v : ℕ) → at + length xs ≡ i → i < length l → set (written l at xs) i v ≡ written l at (xs ++ (v ∷ []))
  written_next i v e h = set_written (written l at xs) i v (rw length_written h) ∙ written_behind i (v ∷ []) e (omega arith)
