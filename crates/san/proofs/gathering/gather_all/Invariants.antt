-- `gather_all` of gathering.rt meets its contract: Gathers (picked mask want) (now moves.entry) r.
use mathlib.Core.Path.{◌≡◌}
use Prim.Native.Nat.{◌+◌}
use Rattle.san.specs.CodeGathered.{picked}
use Rattle.san.proofs.OnePass.{at_front, behind, Left}
use Rattle.san.proofs.gathering.gather_all.Given as goal

abbrev pub invariant-loop-i : goal.invariant-loop-i
invariant-loop-i l =
    (l.k + l.front ≡ 32768 + (l.back + l.i)) × Left (picked l.mask l.want) l.moves (at_front l.moves l.front l.i) (behind l.moves l.front (l.back + l.i)) l.g
