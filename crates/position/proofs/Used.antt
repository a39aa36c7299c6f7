-- Nothing past the last position is looked at.
-- Assumes nothing.
use mathlib.Core.Path.{◌≡◌, refl, ap, ap₂, sym, ◌∙◌}
use mathlib.Core.List.{List, [], ◌∷◌}
use Prim.Native.Nat.{ℕ, zero, suc, ◌+◌, ◌*◌, ◌-◌, ◌≤◌}
use native.Mathlib.Omega.{arith}
use lib.Dec.{leb}
use lib.ListN.{take, drop}
use lib.Seq.{take-take}
use Rattle.answer.specs.Parts.{item}
use Rattle.position.specs.Layout.{Position, position_size, position_of, positions_from}
use Rattle.position.specs.Repeats.{times}
use Rattle.position.specs.Promises.{used_to, LooksAtNothingPast}
use Rattle.position.proofs.Repeats.{there}

-- what lies within the first bytes is theirs
within : (at size used : ℕ) (l : List ℕ) → at + size ≤ used → take size (drop at (take used l)) ≡ take size (drop at l)
within zero size used l h = take-take size used l (omega (arith, h))
within (suc at) size zero l h = absurd (omega (arith, h))
within (suc at) size (suc used) [] h = refl
within (suc at) size (suc used) (x ∷ l) h = within at size used l (omega (arith, h))

module _ (ps qs : List ℕ) (last : ℕ) (agree : take (used_to last) ps ≡ take (used_to last) qs) where
  same_item : (k : ℕ) → k ≤ last → item position_size ps k ≡ item position_size qs k
  same_item k h =
      sym (within (position_size * k) position_size (used_to last) ps (omega (arith, h)))
      ∙ ap (λ (l : List ℕ). take position_size (drop (position_size * k) l)) agree
      ∙ within (position_size * k) position_size (used_to last) qs (omega (arith, h))

  same_positions : (first k : ℕ) → k ≤ last - first → positions_from ps first k ≡ positions_from qs first k
  unfolding positions_from
  same_positions first zero h = refl
  same_positions first (suc k) h =
      ap₂ ◌∷◌ (ap position_of (same_item (first + k) (omega (arith, h)))) (same_positions first k (omega (arith, h)))

pub looks_at_nothing_past : LooksAtNothingPast
looks_at_nothing_past ps qs first last hp hq e =
    there ps first last hp
    ∙ ap₂ (λ (p : Position) (l : List Position). leb 2 (times p l))
    (ap position_of (same_item ps qs last e last (omega arith))) (same_positions ps qs last e first (last - first) (omega arith))
    ∙ sym (there qs first last hq)
