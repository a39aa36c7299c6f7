-- `write_ready` of output.rt is safe and ends.
use Rattle.std.proofs.Common.{◌-◌, ◌≤◌}
use Rattle.keys.proofs.output.Output.write_ready.Given as goal

abbrev pub invariant-loop-done : goal.invariant-loop-done
invariant-loop-done g l = l.done ≤ l.self.ready

abbrev pub decreases-loop-done : goal.decreases-loop-done
decreases-loop-done g l = l.self.ready - l.done
