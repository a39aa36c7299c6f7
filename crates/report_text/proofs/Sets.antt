-- Sets of squares: a set's ones are its squares, its size, and one square more.
-- Assumes nothing.
use mathlib.Core.Path.{◌≡◌, refl, sym, ap, ap₂, ◌∙◌}
use mathlib.Core.Bool.{Bool, true, false}
use mathlib.Core.List.{List, [], ◌∷◌, ◌++◌}
use Prim.Native.Nat.{ℕ, zero, suc, ◌+◌, ◌*◌, ◌^◌, ◌/◌, ◌%◌, ◌≤◌}
use native.Mathlib.Nat.{pow-suc}
use native.Mathlib.Omega.{arith}
use lib.Dec.{eqb}
use lib.ListN.{length}
use lib.Count.{ones, ones_step}
use lib.Pow.{shr-shr}
use Rattle.report_text.specs.Report.{one, squares_with}
use Rattle.report_text.specs.Sets.{set_of, BitsAreTheSquares, OnesAreTheSquares, SetsFit}

-- a test is one at most, and it is the lowest bit in front of the others
pub one_most : (t : Bool) → one t ≤ 1
one_most true = omega arith
one_most false = omega arith

lowest : (b n : ℕ) → b ≤ 1 → ones (b + 2 * n) ≡ b + ones n
lowest b n h =
    let bit : (b + 2 * n) % 2 ≡ b = omega arith in
    let rest : (b + 2 * n) / 2 ≡ n = omega arith in
    ones_step (b + 2 * n) ∙ ap₂ (λ (x y : ℕ). x + ones y) bit rest

pub ones_are_the_squares : OnesAreTheSquares
unfolding ones set_of squares_with
ones_are_the_squares code [] = refl
ones_are_the_squares code (x ∷ xs) =
    lowest (one (eqb x code)) (set_of code xs) (one_most (eqb x code)) ∙ ap (λ (n : ℕ). one (eqb x code) + n) (ones_are_the_squares code xs)

pub bits_are_the_squares : BitsAreTheSquares
unfolding set_of
bits_are_the_squares code [] i h = absurd (omega arith)
bits_are_the_squares code (x ∷ xs) zero h =
    let low = one_most (eqb x code) in
    omega arith
bits_are_the_squares code (x ∷ xs) (suc i) h =
    let low = one_most (eqb x code) in
    let half : (one (eqb x code) + 2 * set_of code xs) / 2 ≡ set_of code xs = omega arith in
    let next : suc i ≡ 1 + i = omega arith in
    let halved : (one (eqb x code) + 2 * set_of code xs) / 2 ^ suc i ≡ set_of code xs / 2 ^ i =
    ap (λ (k : ℕ). (one (eqb x code) + 2 * set_of code xs) / 2 ^ k) next
    ∙ sym (shr-shr (one (eqb x code) + 2 * set_of code xs) 1 i) ∙ ap (λ (n : ℕ). n / 2 ^ i) half in
    ap (λ (n : ℕ). n % 2) halved ∙ bits_are_the_squares code xs i (omega arith)

pub sets_fit : SetsFit
unfolding set_of
sets_fit code [] = omega arith
sets_fit code (x ∷ xs) = rw pow-suc (omega (arith, sets_fit code xs, one_most (eqb x code)))

-- one square more, behind the others, is the bit above theirs
pub set_snoc : (code : ℕ) (xs : List ℕ) (x : ℕ) → set_of code (xs ++ (x ∷ [])) ≡ set_of code xs + 2 ^ length xs * one (eqb x code)
unfolding set_of
set_snoc code [] x = omega arith
set_snoc code (y ∷ xs) x = rw (pow-suc, set_snoc code xs x) (omega arith)

pub squares_most : (code : ℕ) (xs : List ℕ) → squares_with code xs ≤ length xs
unfolding squares_with
squares_most code [] = omega arith
squares_most code (x ∷ xs) = omega (arith, squares_most code xs, one_most (eqb x code))
