-- `actions_size` of lib.rt meets its contract.
use mathlib.Core.List.{List}
use Prim.Native.Nat.{ℕ, ◌*◌, ◌≤◌}
use lib.ListN.{length}
use Rattle.roll_writer.specs.CodeSizes.{are_first}
use Rattle.roll_writer.proofs.Sized.{SizedSo}
use Rattle.roll_writer.proofs.actions_size.Given as goal

abbrev pub invariant-loop-action : goal.invariant-loop-action
invariant-loop-action l =
    (l.k ≤ 4 * l.action-index) × ((acts : List ℕ) → are_first l.actions acts → SizedSo acts (length l.actions) l.action-index l.k)
