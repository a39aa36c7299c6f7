-- `first_bad` of placement.rt meets its contract: r ≡ first_bad (now token.entry).
use mathlib.Core.Path.{◌≡◌}
use Prim.Native.Nat.{◌+◌}
use lib.ListN.{drop}
use Rattle.fen_text.specs.Placement.{first_bad}
use Rattle.fen_reader.proofs.placement.first_bad.Given as goal

abbrev pub invariant-loop-i : goal.invariant-loop-i
invariant-loop-i l = first_bad l.token ≡ l.i + first_bad (drop l.i l.token)
