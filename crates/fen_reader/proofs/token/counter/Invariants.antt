-- `counter` of token.rt meets its contract: the number that the token says, where it is a counter.
use mathlib.Core.Path.{◌≡◌}
use Prim.Native.Nat.{◌^◌, ◌<◌}
use lib.ListN.{drop}
use Rattle.fen_text.specs.Full.{digits_from, counter_of}
use Rattle.fen_reader.proofs.token.counter.Given as goal

abbrev pub invariant-loop-b : goal.invariant-loop-b
invariant-loop-b l = (l.value < 10 ^ l.b-index) × (counter_of l.token ≡ digits_from l.value (drop l.b-index l.token))
