-- `passed_over` of lines.rt meets its contract: no block so far has the byte.
use mathlib.Core.Path.{◌≡◌}
use Prim.Native.Nat.{◌+◌, ◌*◌}
use lib.ListN.{drop}
use Rattle.fen_text.specs.Token.{place_of}
use Rattle.fen_reader.proofs.lines.passed_over.Given as goal

abbrev pub invariant-loop-k : goal.invariant-loop-k
invariant-loop-k l = place_of l.b l.fn.text ≡ l.k * 16 + place_of l.b (drop (l.k * 16) l.fn.text)
