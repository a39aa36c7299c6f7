-- `write_actions` of lib.rt meets its contract: now out.exit ≡ acts_over (read_actions n most (now s.entry)) (now out.entry).
use Prim.Native.Nat.{◌≤◌}
use lib.ListN.{length}
use Rattle.roll_reader.proofs.Writing.{Wrote}
use Rattle.roll_reader.proofs.write_actions.Given as goal

abbrev pub invariant-loop-i : goal.invariant-loop-i
invariant-loop-i l = (l.at ≤ length l.s) × Wrote l.initial.out l.out l.s l.n l.most l.i l.left l.at
