-- The actions of a roll's text: what the code reads of it are the actions' numbers.
-- Assumes nothing.
use mathlib.Core.Path.{◌≡◌, refl, ap, ap₂, sym, ◌∙◌}
use mathlib.Core.Bool.{Bool, true, false}
use mathlib.Core.List.{List, [], ◌∷◌, ◌++◌}
use Prim.Native.Nat.{ℕ, zero, suc, ◌+◌, ◌*◌, ◌/◌, ◌%◌, ◌≤◌, ◌<◌}
use native.Mathlib.Omega.{arith}
use lib.Dec.{eqb, ltb}
use lib.ListN.{length, drop}
use lib.Seq.{drop_at}
use borrow.Author.Tests.{lt-ltb, le-ltb, ne_eqb, eqb-true, eqb-false, ltb-true, ltb-false}
use Rattle.action.specs.Layout.{action_size}
use Rattle.roll_text.specs.Number.{number_text}
use Rattle.roll_text.specs.Roll.{code_of, kind_at, colour_at, move_number_at, action_text, actions_text}
use Rattle.roll_text.proofs.Numbers.{groups_last, groups_more}
use Rattle.roll_text.proofs.ByFields.{action_in_range, actions_in_range}
use Rattle.roll_text.proofs.Entries.{code_range, move_here_lem, plain_here}
use Rattle.answer.proofs.Numbers.{both_left}
use Rattle.differences_text.specs.Differences.{action_numbers}
use Rattle.differences_text.proofs.Numbers.{rest_in_range}
use Rattle.differences.specs.CodeEntries.{entry_size, entry_number, text_numbers}

-- what the front of a text is read as
record Front (text rest : List ℕ) (number : ℕ) : Type 0 where
  size : entry_size (text ++ rest) ≡ length text
  told : entry_number (text ++ rest) ≡ number

-- ---- a number in its groups

one_group : (m : ℕ) → m < 128 → number_text m ≡ m ∷ []
one_group m h = groups_last 4 m h

two_groups_lem : (m : ℕ) → 128 ≤ m → m < 16384 → number_text m ≡ (128 + m % 128) ∷ (m / 128) ∷ []
two_groups_lem m h k = groups_more 4 m h ∙ ap (λ (l : List ℕ). (128 + m % 128) ∷ l) (groups_last 3 (m / 128) (omega arith))

three_groups_lem : (m : ℕ) → 16384 ≤ m → m < 2097152 → number_text m ≡ (128 + m % 128) ∷ (128 + m / 128 % 128) ∷ (m / 128 / 128) ∷ []
three_groups_lem m h k =
    groups_more 4 m (omega arith)
    ∙ ap (λ (l : List ℕ). (128 + m % 128) ∷ l)
    (groups_more 3 (m / 128) (omega arith) ∙ ap (λ (l : List ℕ). (128 + m / 128 % 128) ∷ l) (groups_last 2 (m / 128 / 128) (omega arith)))

-- ---- a move, and any other action

front_one : (m : ℕ) (rest : List ℕ) → m < 128 → Front (2 ∷ m ∷ []) rest (2 + 16 * m)
unfolding entry_size entry_number
front_one m rest h = record { size = simp (lt-ltb _ _ h); told = simp (lt-ltb _ _ h) }

front_two : (m : ℕ) (rest : List ℕ) → 128 ≤ m → m < 16384 → Front (2 ∷ (128 + m % 128) ∷ (m / 128) ∷ []) rest (2 + 16 * m)
unfolding entry_size entry_number
front_two m rest h k =
    let a : 128 ≤ 128 + m % 128 = omega arith in
    let b : m / 128 < 128 = omega arith in
    let c : (128 + m % 128) % 128 + 128 * (m / 128) ≡ m = omega arith in
    record { size = simp (le-ltb _ _ a, lt-ltb _ _ b); told = simp (le-ltb _ _ a, lt-ltb _ _ b) (ap (λ (n : ℕ). 2 + 16 * n) c) }

front_three : (m : ℕ) (rest : List ℕ) → 16384 ≤ m → Front (2 ∷ (128 + m % 128) ∷ (128 + m / 128 % 128) ∷ (m / 128 / 128) ∷ []) rest (2 + 16 * m)
unfolding entry_size entry_number
front_three m rest h =
    let a : 128 ≤ 128 + m % 128 = omega arith in
    let b : 128 ≤ 128 + m / 128 % 128 = omega arith in
    let low : (128 + m % 128) % 128 ≡ m % 128 = omega arith in
    let middle : (128 + m / 128 % 128) % 128 ≡ m / 128 % 128 = omega arith in
    let inner : m / 128 % 128 + 128 * (m / 128 / 128) ≡ m / 128 = omega arith in
    let c : (128 + m % 128) % 128 + 128 * ((128 + m / 128 % 128) % 128 + 128 * (m / 128 / 128)) ≡ m = rw (low, middle, inner) (omega arith) in
    record { size = simp (le-ltb _ _ a, le-ltb _ _ b); told = simp (le-ltb _ _ a, le-ltb _ _ b) (ap (λ (n : ℕ). 2 + 16 * n) c) }

move_read : (m : ℕ) (rest : List ℕ) → m < 2097152 → Front (2 ∷ number_text m) rest (2 + 16 * m)
move_read m rest h = go (ltb m 128) refl (ltb m 16384) refl
  where
    go : (t : Bool) → ltb m 128 ≡ t → (u : Bool) → ltb m 16384 ≡ u → Front (2 ∷ number_text m) rest (2 + 16 * m)
    go true e u f = rw (one_group m (ltb-true m 128 e)) (front_one m rest (ltb-true m 128 e))
    go false e true f = rw (two_groups_lem m (ltb-false m 128 e) (ltb-true m 16384 f)) (front_two m rest (ltb-false m 128 e) (ltb-true m 16384 f))
    go false e false f = rw (three_groups_lem m (ltb-false m 16384 f) h) (front_three m rest (ltb-false m 16384 f))

plain_read : (code : ℕ) (rest : List ℕ) → code < 128 → (code ≡ 2 → ⊥) → Front (number_text code) rest code
unfolding entry_size entry_number
plain_read code rest h k = rw (one_group code h) (record { size = simp (ne_eqb _ _ k); told = simp (ne_eqb _ _ k) })

action_read : (k c m : ℕ) (rest : List ℕ) → action_in_range k c m ≡ true → Front (action_text k c m) rest (code_of k c + 16 * m)
unfolding action_text
action_read k c m rest e = go (eqb k 1) refl
  where
    go : (t : Bool) → eqb k 1 ≡ t → Front (action_text k c m) rest (code_of k c + 16 * m)
    go true f =
        let one : k ≡ 1 = eqb-true k 1 f in
        let h = move_here_lem k c m one e in
        let code : code_of k c ≡ 2 = omega (arith, h.none) in
        simp f (rw (code, one_group 2 (omega arith)) (move_read m rest (omega (arith, h.last))))
    go false f =
        let h = plain_here k c m (eqb-false k 1 f) e in
        let r = code_range (code_of k c) h.code in
        let number : code_of k c + 16 * m ≡ code_of k c = omega (arith, h.none) in
        simp f (rw number (plain_read (code_of k c) rest (omega (arith, r.1)) (λ z. omega (arith, r.0))))

-- ---- all of them

pub text_numbers_lem : (n : ℕ) (bs : List ℕ) → actions_in_range n bs ≡ true → text_numbers n (actions_text n bs) ≡ action_numbers n bs
unfolding text_numbers actions_text action_numbers actions_in_range
text_numbers_lem zero bs e = refl
text_numbers_lem (suc n) bs e =
    let text : List ℕ = action_text (kind_at bs) (colour_at bs) (move_number_at bs) in
    let behind : List ℕ = actions_text n (drop action_size bs) in
    let f = action_read (kind_at bs) (colour_at bs) (move_number_at bs) behind
    (both_left (action_in_range (kind_at bs) (colour_at bs) (move_number_at bs)) (actions_in_range n (drop action_size bs)) e) in
    let left : drop (entry_size (text ++ behind)) (text ++ behind) ≡ behind = drop_at text behind (entry_size (text ++ behind)) (sym f.size) in
    ap₂ ◌∷◌ f.told (ap (text_numbers n) left ∙ text_numbers_lem n (drop action_size bs) (rest_in_range n bs e))

-- ---- how many bytes a number takes

pub size_one : (n : ℕ) → n < 128 → 1 ≡ length (number_text n)
size_one n h = sym (ap length (one_group n h))

pub size_two : (n : ℕ) → 128 ≤ n → n < 16384 → 2 ≡ length (number_text n)
size_two n h k = sym (ap length (two_groups_lem n h k))
