-- The table of the letters' kinds, by the letter's place in the alphabet.
-- Assumes nothing.
use Prim.Native.Nat.{ℕ, ◌+◌, ◌/◌, ◌%◌, ◌<◌}
use mathlib.Core.Path.{◌≡◌, refl, ap, ◌∙◌}
use mathlib.Core.Bool.{false}
use mathlib.Core.List.{List, [], ◌∷◌}
use native.Mathlib.Omega.{arith}
use lib.Dec.{eqb, eqb→eq}
use lib.ListN.{get_or}
use borrow.Author.Tests.{ne_eqb}
use Rattle.answer.proofs.Below.{below}
use Rattle.san_text.specs.Text.{promotion_kind, piece_kind}

abbrev pub kinds : List ℕ
kinds = 0 ∷ 0 ∷ 3 ∷ 0 ∷ 0 ∷ 0 ∷ 0 ∷ 0 ∷ 0 ∷ 0 ∷ 0 ∷ 6 ∷ 0 ∷ 0 ∷ 2 ∷ 0 ∷ 0 ∷ 5 ∷ 4 ∷ 0 ∷ 0 ∷ 0 ∷ 0 ∷ 0 ∷ 0 ∷ 0 ∷ 0 ∷ 0 ∷ 0 ∷ 0 ∷ 0 ∷ 0 ∷ []

letter_at : (n : ℕ) → n < 32 → get_or kinds n 0 ≡ piece_kind (64 + n)
unfolding piece_kind promotion_kind
letter_at n h = eqb→eq (get_or kinds n 0) (piece_kind (64 + n)) (below (λ (k : ℕ). eqb (get_or kinds k 0) (piece_kind (64 + k))) 32 tt n h)

pub letter_kind_lem : (b : ℕ) → b / 32 ≡ 2 → get_or kinds (b % 32) 0 ≡ piece_kind b
letter_kind_lem b e =
    let w : 64 + b % 32 ≡ b = omega arith in
    letter_at (b % 32) (omega arith) ∙ ap piece_kind w

pub no_letter : (b : ℕ) → (b / 32 ≡ 2 → ⊥) → 0 ≡ piece_kind b
unfolding piece_kind promotion_kind
no_letter b n = rw (not 75 refl, not 78 refl, not 66 refl, not 82 refl, not 81 refl)
  where
    not : (k : ℕ) → k / 32 ≡ 2 → eqb b k ≡ false
    not k e = ne_eqb b k (λ w. n (ap (λ (x : ℕ). x / 32) w ∙ e))
