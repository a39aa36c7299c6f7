-- `spaces` of token.rt meets its contract: r + 1 ≡ length (tokens (now s.entry)).
use mathlib.Core.Path.{◌≡◌}
use Prim.Native.Nat.{◌+◌, ◌≤◌}
use lib.ListN.{length, drop}
use Rattle.fen_text.specs.Token.{tokens}
use Rattle.fen_reader.proofs.token.spaces.Given as goal

abbrev pub invariant-loop-x : goal.invariant-loop-x
invariant-loop-x l = (l.n ≤ l.x-index) × (l.n + length (tokens (drop l.x-index l.s)) ≡ length (tokens l.s))
