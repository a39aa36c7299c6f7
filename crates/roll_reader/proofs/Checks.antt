-- What a look at a roll answers where nothing is wrong with it.
-- Assumes nothing.
use mathlib.Core.Path.{◌≡◌, refl}
use mathlib.Core.Bool.{true}
use Prim.Native.Nat.{ℕ}
use native.Mathlib.Omega.{arith}
use Rattle.roll_text.specs.Roll.{Start, Acts, halted, acts, with_actions}
use Rattle.roll_text.specs.Calls.{is_acts}
use Rattle.roll_reader.specs.declared.Checked.{Checked}
use Rattle.roll_reader.specs.Checked.{checked}

-- what is handed out of a start with n actions
abbrev handed : Start → ℕ → Checked
handed st n = record { number = 0; actions = n; half_moves = st.half; full_moves = st.full }

pub counted : (st : Start) (n : ℕ) (a : Acts) → is_acts a ≡ true → handed st n ≡ checked (with_actions st n a)
unfolding is_acts with_actions checked
counted st n (halted k) e = let z : ◌≡◌ {A = ℕ} 0 1 = cc in absurd (omega arith)
counted st n (acts bs) e = refl
