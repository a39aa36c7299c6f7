-- `rank_of` of places.rt meets its contract: the squares of a rank have what stands in its files.
use mathlib.Core.Path.{◌≡◌}
use Prim.Native.Nat.{ℕ, ◌*◌, ◌<◌}
use lib.ListN.{length, get_or}
use Rattle.fen_reader.proofs.PlaceLoops.{FilesTo}
use Rattle.fen_reader.proofs.places.rank_of.Given as goal

abbrev pub invariant-loop-file : goal.invariant-loop-file
invariant-loop-file l =
    (length l.pieces ≡ 64) × FilesTo l.places l.pieces l.rank l.file
    × ((k : ℕ) → k < l.rank * 8 → get_or l.pieces k 0 ≡ get_or l.initial.pieces k 0)
