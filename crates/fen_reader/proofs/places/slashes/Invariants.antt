-- `slashes` of places.rt meets its contract: where it says so, a slash stands behind each rank but the last.
use mathlib.Core.Path.{◌≡◌}
use mathlib.Core.Bool.{true}
use Rattle.fen_reader.proofs.PlaceLoops.{SlashesTo}
use Rattle.fen_reader.proofs.places.slashes.Given as goal

abbrev pub invariant-loop-rank : goal.invariant-loop-rank
invariant-loop-rank l = l.all ≡ true → SlashesTo l.places l.rank
