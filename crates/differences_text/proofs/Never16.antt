-- The roll reader's refusals of a text itself are 5, 13 and 17: where the parts are the call's own, 16 cannot happen.
-- Assumes nothing.
use mathlib.Core.Path.{◌≡◌, refl, ap, sym, ◌∙◌}
use mathlib.Core.Bool.{Bool, true, false, not, false≢true}
use mathlib.Core.List.{List, [], ◌∷◌}
use Prim.Native.Nat.{ℕ}
use native.Mathlib.Omega.{arith}
use lib.Dec.{eqb, leb}
use lib.ListN.{length}
use borrow.Author.Tests.{eq-eqb}
use Rattle.answer.specs.Answer.{part_too_short, write_answer}
use Rattle.game_rules.specs.Rules.{first_refusal}
use Rattle.roll_text.specs.Roll.{Rolled, refusal, rolled, read_roll}
use Rattle.roll_text.specs.Calls.{roll_answer}
use Rattle.roll_text.proofs.Refusals.{Passes, roll_passes, roll_passes_fact}
use Rattle.differences_text.specs.Calls.{differences_check, differences_text}
use Rattle.differences_text.specs.Promises.{Never16}

-- what is not 16
unfoldable told : ℕ → Bool
told k = not (eqb k part_too_short)

other_passes : Passes told
unfolding told
other_passes = record { range = refl; full = refl; bad = refl }

not_16 : (k : ℕ) → told k ≡ true → k ≡ part_too_short → ⊥
unfolding told
not_16 k e z = false≢true (sym (ap not (eq-eqb k part_too_short z)) ∙ e)

number_told : (x : Rolled) → roll_passes told x ≡ true → (roll_answer x).number ≡ part_too_short → ⊥
unfolding roll_passes roll_answer
number_told (refusal k) e z = not_16 k e z
number_told (rolled xs n bs) e z = omega (arith, z)

first_of : (a b : ℕ) → (a ≡ part_too_short → ⊥) → (b ≡ part_too_short → ⊥) → first_refusal (a ∷ b ∷ []) ≡ part_too_short → ⊥
unfolding first_refusal
first_of a b h k e = go (eqb a 0) (eqb b 0) refl refl
  where
    go : (p q : Bool) → eqb a 0 ≡ p → eqb b 0 ≡ q → ⊥
    go true true f g = let z : 0 ≡ part_too_short = simp (f, g) at e in omega (arith, z)
    go true false f g = k (simp (f, g) at e)
    go false q f g = h (simp f at e)

written : (check : ℕ) (text : List ℕ) (room : ℕ) → (check ≡ part_too_short → ⊥) → (write_answer check text room).number ≡ part_too_short → ⊥
unfolding write_answer
written check text room h e = go (eqb check 0) (leb (length text) room) refl refl
  where
    go : (p q : Bool) → eqb check 0 ≡ p → leb (length text) room ≡ q → ⊥
    go true true f g = let z : 0 ≡ part_too_short = simp (f, g) at e in omega (arith, z)
    go true false f g = let z : 7 ≡ part_too_short = simp (f, g) at e in omega (arith, z)
    go false q f g = h (simp f at e)

pub never_16 : Never16
unfolding differences_check
never_16 L s t room =
    written (differences_check L s t) (differences_text L s t) room
    (first_of (roll_answer (read_roll L s)).number (roll_answer (read_roll L t)).number
    (number_told (read_roll L s) (roll_passes_fact told other_passes true L s))
    (number_told (read_roll L t) (roll_passes_fact told other_passes true L t)))
