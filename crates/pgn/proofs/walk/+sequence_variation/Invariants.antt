-- `pgn::walk::sequence` and `pgn::walk::variation` meet their contracts. The loop's invariant: at the offset that the sequence came to, with the moves
-- counted so far, the walk comes to what it came to at the start. What falls from call to call is the levels left, then the text left: a sequence calls
-- a variation one level down, and a variation its sequence one byte on.
-- Assumes nothing.
use Prim.Native.Nat.{◌+◌, ◌-◌}
use lib.ListN.{length}
use Rattle.pgn_text.specs.Walk.{deepest}
use Rattle.pgn.specs.CodeWalkers.{Came}
use Rattle.pgn.proofs.Walkers.{lexicographic}
use Rattle.pgn.proofs.walk.+sequence_variation.Given as goal

abbrev pub decreases-sequence : goal.decreases-sequence
decreases-sequence l = lexicographic (deepest + 1 - l.level) (length l.s.now - l.start)

abbrev pub decreases-variation : goal.decreases-variation
decreases-variation l = lexicographic (deepest - l.level) (length l.s.now - l.at)

abbrev pub invariant-sequence-loop-at : goal.invariant-sequence-loop-at
invariant-sequence-loop-at l = Came l.s l.stop l.level l.start l.moves l.at l.count

abbrev pub decreases-sequence-loop-at : goal.decreases-sequence-loop-at
decreases-sequence-loop-at l = length l.s - l.at
