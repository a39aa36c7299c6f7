-- `walk` of placement.rt meets its contract: the token's pieces, if it is a placement.
use mathlib.Core.Path.{◌≡◌}
use Prim.Native.Nat.{◌<◌}
use lib.ListN.{take}
use Rattle.fen_text.specs.Placement.{placement, start, place_all}
use Rattle.fen_reader.proofs.placement.walk.Given as goal

abbrev pub invariant-loop-b : goal.invariant-loop-b
invariant-loop-b l =
    (l.rank < 8) × (l.file < 8) × (place_all start (take l.b-index l.token) ≡ placement l.pieces l.rank l.file l.good)
