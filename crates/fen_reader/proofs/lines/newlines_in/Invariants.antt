-- `newlines_in` of lines.rt meets its contract: r ≡ length (ended_lines (now block.entry)).
use mathlib.Core.Path.{◌≡◌}
use Prim.Native.Nat.{◌+◌, ◌≤◌}
use lib.ListN.{length, drop}
use Rattle.fen_text.specs.Lines.{ended_lines}
use Rattle.fen_reader.proofs.lines.newlines_in.Given as goal

abbrev pub invariant-loop-b : goal.invariant-loop-b
invariant-loop-b l = (l.n ≤ l.b-index) × (l.n + length (ended_lines (drop l.b-index l.block)) ≡ length (ended_lines l.block))
