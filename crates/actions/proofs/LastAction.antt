-- Laws of the last action.
-- Assumes nothing.
use Rattle.std.specs.Prelude.{None}
use mathlib.Core.Path.{◌≡◌, refl, ap}
use mathlib.Core.List.{List}
use Prim.Native.Nat.{ℕ, zero, suc, ◌-◌}
use native.Mathlib.Omega.{arith}
use Rattle.actions.specs.Part.{action_at, last_action}

pub last_none : (acts : List ℕ) (n : ℕ) → n ≡ 0 → last_action acts n ≡ None
unfolding last_action
last_none acts n z = rw z

pub last_some : (acts : List ℕ) (n : ℕ) → (n ≡ 0 → ⊥) → last_action acts n ≡ action_at acts (n - 1)
unfolding last_action
last_some acts zero z = absurd (z refl)
last_some acts (suc n) z =
    let e : n ≡ suc n - 1 = omega arith in
    ap (action_at acts) e
