-- Laws of lines: how far apart two squares are, and the squares between them, one after the other.
-- Assumes nothing.
use mathlib.Core.Path.{◌≡◌, refl, ap, sym, ◌∙◌}
use mathlib.Core.Bool.{Bool, true, false, cond, ◌&&◌, ◌||◌}
use mathlib.Core.List.{List}
use Prim.Native.Nat.{ℕ, zero, suc, ◌+◌, ◌-◌, ◌≤◌, ◌<◌, min, max}
use native.Mathlib.Omega.{arith}
use lib.Dec.{eqb, ltb}
use borrow.Author.Tests.{lt-ltb, le-ltb, eq-eqb, ne_eqb, ltb-true, ltb-false}
use mathlib.Core.Bool.{false≢true}
use Rattle.answer.proofs.Below.{holds, belows}
use Rattle.square.specs.Piece.{man_on}
use Rattle.move_laws.specs.Apart.{apart, files_apart, ranks_apart, distance, file_or_rank, diagonal, lower, upper, line_step, empty_up_to}
use Rattle.legal.specs.CodeList.{on_line}

pub up_turn : (l : List ℕ) (stop step n at : ℕ) → 0 < n → at < stop → man_on l at ≡ 0
    → empty_up_to l stop step n at ≡ empty_up_to l stop step (n - 1) (at + step)
unfolding empty_up_to
up_turn l stop step zero at h k e = absurd (omega (arith, h))
up_turn l stop step (suc n) at h k e =
    let z : n ≡ suc n - 1 = omega arith in
    simp (lt-ltb _ _ k, eq-eqb _ _ e) (ap (λ (x : ℕ). empty_up_to l stop step x (at + step)) z)

pub up_stop : (l : List ℕ) (stop step n at : ℕ) → stop ≤ at → empty_up_to l stop step n at ≡ true
unfolding empty_up_to
up_stop l stop step zero at h = refl
up_stop l stop step (suc n) at h = simp (le-ltb _ _ h)

pub up_met : (l : List ℕ) (stop step n at : ℕ) → 0 < n → at < stop → (man_on l at ≡ 0 → ⊥) → empty_up_to l stop step n at ≡ false
unfolding empty_up_to
up_met l stop step zero at h k e = absurd (omega (arith, h))
up_met l stop step (suc n) at h k e = simp (lt-ltb _ _ k, ne_eqb _ _ e)

pub up_end : (l : List ℕ) (stop step n at : ℕ) → n ≤ 0 → empty_up_to l stop step n at ≡ true
unfolding empty_up_to
up_end l stop step zero at h = refl
up_end l stop step (suc n) at h = absurd (omega (arith, h))

-- how far apart, the smaller and the larger, as the code has them
pub apart_by : (a b : ℕ) → (a - b) + (b - a) ≡ apart a b
unfolding apart
apart_by a b = go (ltb a b) refl
  where
    go : (u : Bool) → ltb a b ≡ u → (a - b) + (b - a) ≡ cond u (b - a) (a - b)
    go true e = let h = ltb-true a b e in omega (arith, h)
    go false e = let h = ltb-false a b e in omega (arith, h)

pub larger_by : (a b : ℕ) → max a b ≡ cond (ltb a b) b a
larger_by a b = go (ltb a b) refl
  where
    go : (u : Bool) → ltb a b ≡ u → max a b ≡ cond u b a
    go true e = let h = ltb-true a b e in omega (arith, h)
    go false e = let h = ltb-false a b e in omega (arith, h)

pub upper_by : (s t : ℕ) → max s t ≡ upper s t
unfolding upper
upper_by s t = larger_by s t

pub lower_by : (s t : ℕ) → min s t ≡ lower s t
unfolding lower
lower_by s t = go (ltb s t) refl
  where
    go : (u : Bool) → ltb s t ≡ u → min s t ≡ cond u s t
    go true e = let h = ltb-true s t e in omega (arith, h)
    go false e = let h = ltb-false s t e in omega (arith, h)

pub between_by : (s t : ℕ) → (s - t) + (t - s) ≡ upper s t - lower s t
between_by s t = let u = upper_by s t in let l = lower_by s t in omega (arith, u, l)

-- squares of the board that are not the same are a step apart or more, and the step of their line is under 64
apart_test : ℕ → ℕ → Bool
apart_test s t = eqb s t || ltb 0 (distance s t)

pub some_distance : (s t : ℕ) → s < 64 → t < 64 → (s ≡ t → ⊥) → 0 < distance s t
unfolding apart_test distance files_apart ranks_apart apart
some_distance s t h k n =
    ltb-true 0 (distance s t) (go (eqb s t) (ne_eqb s t n) (holds (apart_test s t) (belows apart_test 64 64 tt s t h k)))
  where
    go : (u : Bool) → u ≡ false → u || ltb 0 (distance s t) ≡ true → ltb 0 (distance s t) ≡ true
    go true e f = absurd (false≢true (sym e))
    go false e f = f

step_test : ℕ → ℕ → Bool
step_test s t = ltb (line_step s t) 64

pub step_under : (s t : ℕ) → s < 64 → t < 64 → line_step s t < 64
unfolding step_test line_step upper lower distance files_apart ranks_apart apart
step_under s t h k = ltb-true (line_step s t) 64 (holds (step_test s t) (belows step_test 64 64 tt s t h k))

-- what is on a line is elsewhere
pub straight_apart : (s t : ℕ) → file_or_rank s t ≡ true → s ≡ t → ⊥
unfolding file_or_rank
straight_apart s t e q = absurd (false≢true (sym (simp (eq-eqb s t q)) ∙ e))

pub diagonal_apart : (s t : ℕ) → diagonal s t ≡ true → s ≡ t → ⊥
unfolding diagonal
diagonal_apart s t e q = absurd (false≢true (sym (simp (eq-eqb s t q)) ∙ e))

pub line_apart : (s t : ℕ) → on_line s t ≡ true → s ≡ t → ⊥
unfolding on_line
line_apart s t e q = go (file_or_rank s t) refl e
  where
    go : (u : Bool) → file_or_rank s t ≡ u → u || diagonal s t ≡ true → ⊥
    go true f g = straight_apart s t f q
    go false f g = diagonal_apart s t g q

-- a line of either kind that is clear
pub either_clear : (a b c : Bool) → (a || b) && c ≡ (a && c) || (b && c)
either_clear true true true = refl
either_clear true true false = refl
either_clear true false true = refl
either_clear true false false = refl
either_clear false b c = refl
