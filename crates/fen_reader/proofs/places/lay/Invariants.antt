-- `lay` of places.rt meets its contract: where nothing is wrong with the places, the walk stands where the placement rule stands.
use mathlib.Core.Path.{◌≡◌}
use Prim.Native.Nat.{ℕ, ◌≤◌, ◌<◌}
use lib.ListN.{length, get_or}
use Rattle.fen_reader.specs.CodePlaces.{Right, Walks}
use Rattle.fen_reader.proofs.places.lay.Given as goal

abbrev pub invariant-loop-i : goal.invariant-loop-i
invariant-loop-i l =
    (l.at < 128) × (length l.places ≡ 128) × ((k : ℕ) → l.at ≤ k → get_or l.places k 0 ≡ 0)
    × (l.at ≤ 120 → Right l.places l.at → Walks l.text l.i l.at l.places)
