-- Texts behind one another: a start's line and an action's, and the space for their parts.
-- Assumes nothing.
use mathlib.Core.Path.{◌≡◌, subst, sym, ap, ◌∙◌}
use mathlib.Core.List.{List, [], ◌∷◌, ◌++◌, append-nil, append_assoc}
use Prim.Native.Nat.{ℕ, ◌+◌, ◌-◌, ◌≤◌}
use native.Mathlib.Omega.{arith}
use lib.ListN.{length, take, drop, length-append}
use lib.Seq.{length-take-le}
use borrow.Rule.Slice.PartMut.{put_mid}
use borrow.Author.Tests.{eq-eqb, ne_eqb}
use Rattle.answer.specs.declared.Answer.{Answer}
use Rattle.answer.specs.Answer.{write_answer, write_bytes}
use Rattle.answer.specs.Ascii.{ascii}
use Rattle.answer.proofs.Puts.{put_text}
use Rattle.decimal.specs.Decimal.{decimal}
use Rattle.differences_text.specs.Differences.{difference, if_differs, action_key, pair_text, line_text, lines_text}

-- a text behind another, in other words
pub put_as : {p q : List ℕ} (old new : List ℕ) → p ≡ q → new ≡ old ++ p → new ≡ old ++ q
put_as old new e h = rw e at h

-- the two parts of a text that there is space for
module _ (old p q : List ℕ) (most : ℕ) (fits : length old + length (p ++ q) ≤ most) where
  pub part_fits : length old + length p ≤ most
  part_fits = omega (arith, length-append p q)

  pub rest_fits : (new : List ℕ) → new ≡ old ++ p → length new + length q ≤ most
  rest_fits new e = omega (arith, length-append p q, length-append old p, ap length e)

pub parts_put : (old p q : List ℕ) {t u : List ℕ} → t ≡ old ++ p → u ≡ t ++ q → u ≡ old ++ (p ++ q)
parts_put old p q e f = f ∙ ap (λ (l : List ℕ). l ++ q) e ∙ append_assoc old p q

-- a number that is written behind the first `n` bytes of the array
pub number_put : (x : ℕ) (bytes now w : List ℕ) (n room : ℕ) (r : Answer) → length bytes ≡ 658 → n ≤ 658 → take n bytes ≡ now
    → length now + length (decimal x) ≤ 658 → r ≡ write_answer 0 (decimal x) room
    → w ≡ write_bytes 0 (decimal x) (take (658 - n) (drop n bytes))
    → (n + r.value ≤ 658) × (take (n + r.value) (put_mid n (658 - n) bytes w) ≡ now ++ decimal x)
number_put x bytes now w n room r long h e fits er ew =
    let front : length (take n bytes) ≡ n = length-take-le n bytes (omega arith) in
    let near : n + length (decimal x) ≤ 658 = omega (arith, front, ap length e) in
    let k : 658 - n ≡ length bytes - n = omega arith in
    let ew' : w ≡ write_bytes 0 (decimal x) (take (length bytes - n) (drop n bytes))
    = subst (λ (i : ℕ). w ≡ write_bytes 0 (decimal x) (take i (drop n bytes))) k ew in
    let p = put_text bytes (decimal x) w n room r long near er ew' in
    let text = subst (λ (i : ℕ). take (n + r.value) (put_mid n i bytes w) ≡ take n bytes ++ decimal x) (sym k) p.pushed.bytes in
    (omega (arith, p.pushed.count), text ∙ ap (λ (l : List ℕ). l ++ decimal x) e)

-- ---- a start's line

-- equal numbers are not told, and any others are
pub no_line : (key : List ℕ) (x y : ℕ) → x ≡ y → lines_text (if_differs key x y) ≡ []
unfolding if_differs lines_text
no_line key x y e = simp (eq-eqb _ _ e)

pub one_line : (key : List ℕ) (x y : ℕ) → (x ≡ y → ⊥) → lines_text (if_differs key x y) ≡ key ++ pair_text x y
unfolding if_differs line_text lines_text
one_line key x y e = simp (ne_eqb _ _ e, append-nil)

pub nothing_put : (old key : List ℕ) (x y : ℕ) → x ≡ y → old ≡ old ++ lines_text (if_differs key x y)
nothing_put old key x y e = sym (append-nil old) ∙ ap (λ (l : List ℕ). old ++ l) (sym (no_line key x y e))

-- ---- an action's line: its word, its index, and then two numbers

abbrev pub word : List ℕ
word = 97 ∷ 99 ∷ 116 ∷ 105 ∷ 111 ∷ 110 ∷ 32 ∷ []

pub action_line_lem : (i x y : ℕ) → line_text (difference (action_key i) x y) ≡ word ++ (decimal i ++ pair_text x y)
unfolding line_text action_key ascii
action_line_lem i x y = append_assoc word (decimal i) (pair_text x y)
