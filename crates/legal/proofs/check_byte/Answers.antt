-- `check_byte` of lib.rt meets its contract: r ≡ check_byte b.
use mathlib.Core.Path.{◌≡◌, refl, ap, ◌∙◌}
use mathlib.Core.Bool.{Bool, true, false, cond}
use Prim.Native.Nat.{ℕ}
use Rattle.std.specs.Int.{from_bool}
use Rattle.move_laws.specs.Legal.{check_byte}
use Rattle.legal.proofs.check_byte.Goals as goal

as_number : (t : Bool) → from_bool t ≡ cond {A = ℕ} t 1 0
as_number true = refl
as_number false = refl

pub returns : goal.returns
unfolding check_byte
returns c = c.from.ensures ∙ as_number c.checked.result ∙ ap (λ (t : Bool). cond t 1 0) (rw c.side.ensures at c.checked.ensures)
