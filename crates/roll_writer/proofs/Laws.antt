-- Numbers written, group by group, and how long they are.
-- Assumes nothing.
use mathlib.Core.Bool.{Bool, true, false}
use lib.Dec.{ltb}
use borrow.Author.Tests.{ltb-true, ltb-false}
use mathlib.Core.Path.{◌≡◌, refl, ap, sym, ◌∙◌}
use mathlib.Core.List.{List, [], ◌∷◌}
use Prim.Native.Nat.{ℕ, zero, suc, ◌+◌, ◌/◌, ◌%◌, ◌-◌, ◌≤◌, ◌<◌}
use native.Mathlib.Omega.{arith}
use lib.ListN.{length, set}
use Rattle.answer.specs.Parts.{written}
use Rattle.answer.proofs.Parts.{set_written, written_behind}
use Rattle.roll_text.specs.Number.{reach, groups, number_text}
use Rattle.roll_text.proofs.Numbers.{groups_last, groups_more}

-- ---- numbers written

pub one_group : (k n : ℕ) → 1 ≤ k → n < 128 → groups k n ≡ n ∷ []
one_group zero n h l = absurd (omega arith)
one_group (suc k) n h l = groups_last k n l

pub group_and_more : (k n : ℕ) → 1 ≤ k → 128 ≤ n → groups k n ≡ (128 + n % 128) ∷ groups (k - 1) (n / 128)
group_and_more zero n h l = absurd (omega arith)
group_and_more (suc k) n h l = let e : suc k - 1 ≡ k = omega arith in rw e (groups_more k n l)

pub reach_next : (k n : ℕ) → n < reach k → 128 ≤ n → (1 ≤ k - 1) × (n / 128 < reach (k - 1))
unfolding reach
reach_next zero n h l = absurd (omega arith)
reach_next (suc zero) n h l = absurd (omega arith)
reach_next (suc (suc k)) n h l = let e : suc (suc k) - 1 ≡ suc k = omega arith in rw e (omega arith, omega arith)

-- one byte, and the bytes right behind it
pub written_front : (l : List ℕ) (at b : ℕ) (bs : List ℕ) → at + (1 + length bs) ≤ length l → written (set l at b) (at + 1) bs ≡ written l at (b ∷ bs)
written_front l at b bs h =
    ap (λ (m : List ℕ). written m (at + 1) bs) (set_written l at b (omega arith))
    ∙ written_behind l at (b ∷ []) (omega arith) (at + 1) bs refl (omega arith)

pub put_done : (l : List ℕ) (at k n : ℕ) (x : List ℕ) → 1 ≤ k → 128 ≤ n → at + length (groups k n) ≤ length l
    → x ≡ written (set l at (128 + n % 128)) (at + 1) (groups (k - 1) (n / 128)) → x ≡ written l at (groups k n)
put_done l at k n x h big fits e =
    let g = group_and_more k n h big in
    e ∙ written_front l at (128 + n % 128) (groups (k - 1) (n / 128)) (omega (arith, ap length g)) ∙ ap (written l at) (sym g)

-- ---- how long a number is

pub one_byte : (n : ℕ) → n < 128 → 1 ≡ length (number_text n)
one_byte n h = sym (ap length (groups_last 4 n h))

pub two_bytes : (n : ℕ) → 128 ≤ n → n < 16384 → 2 ≡ length (number_text n)
two_bytes n h l = let z : n / 128 < 128 = omega arith in sym (ap length (groups_more 4 n h ∙ ap (λ (m : List ℕ). (128 + n % 128) ∷ m) (groups_last 3 (n
    / 128) z)))

pub three_bytes : (n : ℕ) → 16384 ≤ n → n < 2097152 → 3 ≡ length (number_text n)
three_bytes n h l =
    let y : 128 ≤ n / 128 = omega arith in
    let z : n / 128 / 128 < 128 = omega arith in
    sym (ap length
    (groups_more 4 n (omega arith)
    ∙ ap (λ (m : List ℕ). (128 + n % 128) ∷ m)
    (groups_more 3 (n / 128) y ∙ ap (λ (m : List ℕ). (128 + n / 128 % 128) ∷ m) (groups_last 2 (n / 128 / 128) z))))

-- no more than there may be
pub groups_most : (k n : ℕ) → length (groups k n) ≤ k
unfolding groups
groups_most zero n = omega arith
groups_most (suc k) n = by (ltb n 128) refl (groups_most k (n / 128))
  where
    by : (t : Bool) → ltb n 128 ≡ t → length (groups k (n / 128)) ≤ k → length (groups (suc k) n) ≤ suc k
    by true e h = rw (groups_last k n (ltb-true n 128 e)) (omega arith)
    by false e h = rw (groups_more k n (ltb-false n 128 e)) (omega arith)
