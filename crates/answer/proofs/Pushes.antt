-- Laws of a text that is put together in an array: nothing, one byte, one part after the other, the whole from an empty array.
-- Assumes nothing.
use mathlib.Core.Path.{◌≡◌, refl, sym, ap, ◌∙◌}
use mathlib.Core.List.{List, [], ◌∷◌, ◌++◌, append_assoc, append-nil}
use Prim.Native.Nat.{ℕ, ◌+◌, ◌<◌, ◌≤◌}
use native.Mathlib.Nat.{add-zero}
use native.Mathlib.Numerals.{add-one}
use native.Mathlib.Omega.{arith}
use lib.ListN.{length, take, set, length-append, length-set, length-take}
use lib.Seq.{take-suc-set}
use Rattle.answer.specs.CodePushed.{Pushed, Put}

pub push_none : {old : List ℕ} {n : ℕ} → Pushed old n [] old n
push_none {old} {n} = record { count = sym (add-zero n); bytes = sym (append-nil (take n old)) }

pub push_one : (old : List ℕ) (n b : ℕ) → n < length old → Pushed old n (b ∷ []) (set old n b) (n + 1)
push_one old n b h = record { count = refl; bytes = rw (add-one n) (take-suc-set old n b h) }

pub push_both : {old new newer : List ℕ} {n r s : ℕ} {p q : List ℕ} → Pushed old n p new r → Pushed new r q newer s → Pushed old n (p ++ q) newer s
push_both {old} {new} {newer} {n} {r} {s} {p} {q} a b = record {
  count = omega (arith, length-append p q, a.count, b.count);
  bytes = b.bytes ∙ ap (λ (l : List ℕ). l ++ q) a.bytes ∙ append_assoc (take n old) p q;
}

-- the same text in other words
pub push_as : {old new : List ℕ} {n r : ℕ} {p q : List ℕ} → p ≡ q → Pushed old n p new r → Pushed old n q new r
push_as e a = rw e at a

-- from an empty array: the text is all there is
pub push_whole : {old new text : List ℕ} {r : ℕ} → Pushed old 0 text new r → (r ≡ length text) × (take r new ≡ text)
push_whole a = (a.count ∙ omega arith, a.bytes)

-- ---- in an array of a given size

pub put_none : {size : ℕ} {old : List ℕ} {n : ℕ} → length old ≡ size → Put size old n [] old n
put_none e = record { pushed = push_none; long = e }

pub put_one : {size : ℕ} (old : List ℕ) (n b : ℕ) → length old ≡ size → n < size → Put size old n (b ∷ []) (set old n b) (n + 1)
put_one {size} old n b e h = record { pushed = push_one old n b (omega arith); long = length-set old n b ∙ e }

pub put_both : {size : ℕ} {old new newer : List ℕ} {n r s : ℕ} {p q : List ℕ}
    → Put size old n p new r → Put size new r q newer s → Put size old n (p ++ q) newer s
put_both a b = record { pushed = push_both a.pushed b.pushed; long = b.long }

-- the same text in other words
pub put_as : {size : ℕ} {old new : List ℕ} {n r : ℕ} {p q : List ℕ} → p ≡ q → Put size old n p new r → Put size old n q new r
put_as e a = record { pushed = push_as e a.pushed; long = a.long }

-- a text from the start on is all there is, and lies within the array
pub whole_count : {size : ℕ} {old new text : List ℕ} {r : ℕ} → Put size old 0 text new r → r ≡ length (take r new)
whole_count a = let w = push_whole a.pushed in w.0 ∙ sym (ap length w.1)

pub whole_within : {size : ℕ} {old new text : List ℕ} {r : ℕ} → Put size old 0 text new r → r ≤ length new
whole_within {new = new} {r = r} a = omega (arith, simp length-take at (whole_count a))
