-- `laws::since` meets its contract. The invariant: k counts the moves before action i, and the actions from i on leave the position what it is before them.
-- Assumes nothing.
use mathlib.Core.Path.{◌≡◌}
use Rattle.actions.specs.Part.{moves_in}
use Rattle.laws.specs.CodeSince.{laws_since}
use Rattle.laws.proofs.since.Given as goal

abbrev pub invariant-loop-i : goal.invariant-loop-i
invariant-loop-i l = (l.k ≡ moves_in l.acts l.i) × (laws_since l.acts l.ps l.i ≡ laws_since l.acts l.ps l.n)
