-- `moves_by_kind` of lib.rt meets its contract.
use mathlib.Core.Path.{◌≡◌}
use mathlib.Core.List.{List}
use Prim.Native.Nat.{ℕ, ◌≤◌}
use Rattle.roll_text.specs.Calls.{moves_by_kind}
use Rattle.roll_writer.specs.CodeSizes.{are_first}
use Rattle.roll_writer.proofs.moves_by_kind.Given as goal

abbrev pub invariant-loop-action : goal.invariant-loop-action
invariant-loop-action l = (l.k ≤ l.action-index) × ((acts : List ℕ) → are_first l.actions acts → l.k ≡ moves_by_kind acts l.action-index)
