-- The invariant: i squares are behind and `run` of them, the last ones, are an open run. The n bytes so far are what is done and the run's digit, and what
-- is done and the text of the squares that are left, after that run, are the text of the whole. Assumes nothing.
use Prim.Native.Nat.{◌+◌, ◌≤◌}
use lib.ListN.{take, drop}
use Rattle.fen_writer.proofs.Rows.{Row}
use Rattle.fen_writer.proofs.text.rank.Given as goal

abbrev pub invariant-loop-i : goal.invariant-loop-i
invariant-loop-i l = (l.run ≤ l.i) × (l.n ≤ l.at + l.i) × Row l.initial.bytes l.at (take 8 (drop l.from l.pieces)) l.bytes l.n l.run l.i
