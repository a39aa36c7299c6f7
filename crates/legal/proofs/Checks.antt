-- Laws of attack and check: one square after the other, from the last to the first.
-- Assumes nothing.
use mathlib.Core.Path.{◌≡◌, refl, ap, sym, ◌∙◌}
use mathlib.Core.Bool.{true, false}
use mathlib.Core.List.{List}
use Prim.Native.Nat.{ℕ, zero, suc, ◌-◌, ◌≤◌, ◌<◌}
use native.Mathlib.Omega.{arith}
use Rattle.move_laws.specs.Attack.{attacks, attacked_below, king_attacked, in_check_below}

pub attacked_turn : (l : List ℕ) (side t n : ℕ) → 0 < n → attacks l side (n - 1) t ≡ false → attacked_below l side t n ≡ attacked_below l side t (n - 1)
unfolding attacked_below
attacked_turn l side t zero h e = absurd (omega (arith, h))
attacked_turn l side t (suc n) h e =
    let z : suc n - 1 ≡ n = omega arith in
    simp (sym (ap (λ (x : ℕ). attacks l side x t) z) ∙ e) (ap (λ (x : ℕ). attacked_below l side t x) (sym z))

pub attacked_stop : (l : List ℕ) (side t n : ℕ) → 0 < n → attacks l side (n - 1) t ≡ true → attacked_below l side t n ≡ true
unfolding attacked_below
attacked_stop l side t zero h e = absurd (omega (arith, h))
attacked_stop l side t (suc n) h e =
    let z : suc n - 1 ≡ n = omega arith in
    simp (sym (ap (λ (x : ℕ). attacks l side x t) z) ∙ e)

pub attacked_end : (l : List ℕ) (side t n : ℕ) → n ≤ 0 → attacked_below l side t n ≡ false
unfolding attacked_below
attacked_end l side t zero h = refl
attacked_end l side t (suc n) h = absurd (omega (arith, h))

pub check_turn : (l : List ℕ) (side n : ℕ) → 0 < n → king_attacked l side (n - 1) ≡ false → in_check_below l side n ≡ in_check_below l side (n - 1)
unfolding in_check_below
check_turn l side zero h e = absurd (omega (arith, h))
check_turn l side (suc n) h e =
    let z : suc n - 1 ≡ n = omega arith in
    simp (sym (ap (λ (x : ℕ). king_attacked l side x) z) ∙ e) (ap (λ (x : ℕ). in_check_below l side x) (sym z))

pub check_stop : (l : List ℕ) (side n : ℕ) → 0 < n → king_attacked l side (n - 1) ≡ true → in_check_below l side n ≡ true
unfolding in_check_below
check_stop l side zero h e = absurd (omega (arith, h))
check_stop l side (suc n) h e =
    let z : suc n - 1 ≡ n = omega arith in
    simp (sym (ap (λ (x : ℕ). king_attacked l side x) z) ∙ e)

pub check_end : (l : List ℕ) (side n : ℕ) → n ≤ 0 → in_check_below l side n ≡ false
unfolding in_check_below
check_end l side zero h = refl
check_end l side (suc n) h = absurd (omega (arith, h))
