-- `newlines` of lines.rt meets its contract: r ≡ length (ended_lines (now text.entry)).
use mathlib.Core.Path.{◌≡◌}
use Prim.Native.Nat.{◌+◌, ◌*◌}
use lib.ListN.{length, drop}
use Rattle.fen_text.specs.Lines.{ended_lines}
use Rattle.fen_reader.proofs.lines.newlines.Given as goal

abbrev pub invariant-loop-block : goal.invariant-loop-block
invariant-loop-block l = l.n + length (ended_lines (drop (l.block-index * 128) l.fn.text)) ≡ length (ended_lines l.fn.text)
