-- `next_across` of lib.rt meets its contract: r ≡ next_across (now text.entry) offset level.
use Prim.Native.Nat.{◌≤◌}
use Rattle.pgn_text.specs.Between.{crossed_from}
use Rattle.pgn.proofs.next_across.Given as goal

abbrev pub invariant-loop-closed : goal.invariant-loop-closed
invariant-loop-closed l = l.closed ≤ (crossed_from l.text l.offset).closed
