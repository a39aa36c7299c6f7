-- Laws over plain variables that the functions' proofs cite.
-- Assumes nothing.
use mathlib.Core.Path.{◌≡◌, refl, ap, sym, ◌∙◌}
use mathlib.Core.List.{List, [], ◌∷◌}
use Prim.Native.Nat.{ℕ, zero, suc, ◌+◌, ◌*◌, ◌%◌, ◌-◌, ◌≤◌, ◌<◌}
use native.Mathlib.Omega.{arith}
use lib.ListN.{length, drop, get_or, replicate, get_or-replicate, get_or-append}
use Rattle.std.specs.Prelude.{Some, None}
use Rattle.roll_text.specs.Roll.{largest_numbers}
use Rattle.roll_text.specs.Number.{Number, reach, behind, read_groups}
use Rattle.roll_text.proofs.Numbers.{read_last, read_more, behind_some, behind_none, within}

-- ---- numbers read

pub none_left_lem : (k : ℕ) (s : List ℕ) → k ≡ 0 → None ≡ read_groups k s
unfolding read_groups
none_left_lem k s h = rw h refl

pub none_there : (k : ℕ) (s : List ℕ) → length s ≡ 0 → None ≡ read_groups k s
unfolding read_groups
none_there zero s h = refl
none_there (suc k) [] h = refl
none_there (suc k) (b ∷ bs) h = absurd (omega arith)

pub last_group : (k : ℕ) (s : List ℕ) → (k ≡ 0 → ⊥) → (length s ≡ 0 → ⊥) → get_or s 0 0 < 128 → Some (get_or s 0 0, 1) ≡ read_groups k s
last_group zero s h l b = absurd (h refl)
last_group (suc k) [] h l b = absurd (l refl)
last_group (suc k) (x ∷ xs) h l b = sym (read_last k x xs b)

more_groups : (k : ℕ) (s : List ℕ) → (k ≡ 0 → ⊥) → (length s ≡ 0 → ⊥) → 128 ≤ get_or s 0 0 → read_groups k s ≡ behind (get_or s 0 0 % 128) (read_groups (k -
    1) (drop 1 s))
more_groups zero s h l b = absurd (h refl)
more_groups (suc k) [] h l b = absurd (l refl)
more_groups (suc k) (x ∷ xs) h l b = let e : suc k - 1 ≡ k = omega arith in rw e (read_more k x xs b)

module _ (k : ℕ) (s t : List ℕ) (more : Number) (some : k ≡ 0 → ⊥) (there : length s ≡ 0 → ⊥) (big : 128 ≤ get_or s 0 0) (left : t ≡ drop 1 s) (is : more
    ≡ read_groups (k - 1) t) where
  on : read_groups k s ≡ behind (get_or s 0 0 % 128) more
  on = more_groups k s some there big ∙ ap (behind (get_or s 0 0 % 128)) (sym (is ∙ ap (read_groups (k - 1)) left))

  pub needless : (n size : ℕ) → more ≡ Some (n, size) → n ≡ 0 → None ≡ read_groups k s
  needless n size e z = sym (on ∙ ap (behind (get_or s 0 0 % 128)) e ∙ behind_none (get_or s 0 0 % 128) n size z)

  pub joined : (n size : ℕ) → more ≡ Some (n, size) → (n ≡ 0 → ⊥) → Some (get_or s 0 0 % 128 + 128 * n, size + 1) ≡ read_groups k s
  joined n size e z = sym (on ∙ ap (behind (get_or s 0 0 % 128)) e ∙ behind_some (get_or s 0 0 % 128) n size z)

  pub cut : more ≡ None → None ≡ read_groups k s
  unfolding behind
  cut e = sym (on ∙ ap (behind (get_or s 0 0 % 128)) e)

-- what five groups hold fits
reach_most : (k : ℕ) → k ≤ 5 → reach k ≤ 34359738368
unfolding reach
reach_most zero h = omega arith
reach_most (suc zero) h = omega arith
reach_most (suc (suc zero)) h = omega arith
reach_most (suc (suc (suc zero))) h = omega arith
reach_most (suc (suc (suc (suc zero)))) h = omega arith
reach_most (suc (suc (suc (suc (suc zero))))) h = omega arith
reach_most (suc (suc (suc (suc (suc (suc k)))))) h = absurd (omega arith)

pub record Sized (n size : ℕ) : Type 0 where
  pub number : n < 34359738368
  pub most : size ≤ 5

pub sized : (k : ℕ) (s : List ℕ) (more : Number) (n size : ℕ) → k ≤ 5 → more ≡ read_groups k s → more ≡ Some (n, size) → Sized n size
sized k s more n size h e f =
    let w = within k s n size (sym e ∙ f) in
    let r = reach_most k h in
    record { number = omega (arith, w.small); most = omega (arith, w.most) }

-- ---- the bounds of the record's numbers

pub a_square : (i : ℕ) → i < 64 → 12 ≡ get_or largest_numbers i 0
unfolding largest_numbers
a_square i h = sym (get_or-append (replicate 64 12) (1 ∷ 3 ∷ 3 ∷ 8 ∷ []) 0 i h ∙ get_or-replicate 64 i 12 0 h)

pub the_side : (i : ℕ) → i ≡ 64 → 1 ≡ get_or largest_numbers i 0
unfolding largest_numbers
the_side i h = rw h refl

rights : (i j : ℕ) → i ≡ 65 + j → j < 2 → 3 ≡ get_or largest_numbers i 0
unfolding largest_numbers
rights i zero h l = rw h refl
rights i (suc zero) h l = rw h refl
rights i (suc (suc j)) h l = absurd (omega arith)

pub the_rights : (i : ℕ) → 64 ≤ i → (i ≡ 64 → ⊥) → i < 67 → 3 ≡ get_or largest_numbers i 0
the_rights i h n l = rights i (i - 65) (omega arith) (omega arith)

pub the_file : (i : ℕ) → 67 ≤ i → i < 68 → 8 ≡ get_or largest_numbers i 0
unfolding largest_numbers
the_file i h l = let e : i ≡ 67 = omega arith in rw e refl
