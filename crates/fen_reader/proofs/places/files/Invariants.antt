-- `files` of places.rt meets its contract: the pieces are what stands in the files.
use mathlib.Core.Path.{◌≡◌}
use lib.ListN.{length}
use Rattle.fen_reader.proofs.PlaceLoops.{RanksTo}
use Rattle.fen_reader.proofs.places.files.Given as goal

abbrev pub invariant-loop-rank : goal.invariant-loop-rank
invariant-loop-rank l = (length l.pieces ≡ 64) × RanksTo l.places l.pieces l.rank
