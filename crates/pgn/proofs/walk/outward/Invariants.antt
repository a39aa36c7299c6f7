-- `pgn::walk::outward` meets its contract. The invariant: at the offset that was come to, with the brackets still open at the place's offset, the walk
-- comes to what it came to at the place. The measure is the level.
-- Assumes nothing.
use mathlib.Core.Path.{◌≡◌}
use Prim.Native.Nat.{◌≤◌}
use lib.ListN.{length, replicate}
use Rattle.pgn_text.specs.Walk.{deepest}
use Rattle.pgn.specs.CodeWalkers.{walked_from, told_from}
use Rattle.pgn.proofs.walk.outward.Given as goal

abbrev pub invariant-loop-end : goal.invariant-loop-end
invariant-loop-end l =
    (l.at ≤ length l.s) × (l.inside ≤ deepest) × (l.count ≤ l.at)
    × (told_from l.s l.stop l.offset l.level ≡ walked_from l.s l.stop (replicate l.inside l.offset) l.at l.count)

abbrev pub decreases-loop-end : goal.decreases-loop-end
decreases-loop-end l = l.inside
