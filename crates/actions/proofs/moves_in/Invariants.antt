-- `moves_in` of lib.rt meets its contract: r ≡ moves_in (now acts.entry) n.
use mathlib.Core.Path.{◌≡◌}
use Prim.Native.Nat.{◌≤◌}
use Rattle.actions.specs.Part.{moves_in}
use Rattle.actions.proofs.moves_in.Given as goal

abbrev pub invariant-loop-i : goal.invariant-loop-i
invariant-loop-i l = (l.k ≤ l.i) × (l.k ≡ moves_in l.acts l.i)
