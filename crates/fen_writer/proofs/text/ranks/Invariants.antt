-- The invariant: the n bytes so far and the text of the `left` lowest ranks are the text of all eight. Assumes nothing.
use Rattle.fen_writer.proofs.Ranks.{Ranks}
use Rattle.fen_writer.proofs.text.ranks.Given as goal

abbrev pub invariant-loop-left : goal.invariant-loop-left
invariant-loop-left l = Ranks l.pieces l.bytes l.n l.left
