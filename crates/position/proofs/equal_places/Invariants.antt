-- `equal_places` of lib.rt meets its contract: r ≡ equal_places (now ps.entry) first last.
use mathlib.Core.Path.{◌≡◌}
use Prim.Native.Nat.{◌≤◌, max}
use Rattle.position.specs.Layout.{position_at}
use Rattle.position.specs.Places.{places_told}
use Rattle.position.proofs.PlacesOf.{numbers}
use Rattle.position.proofs.equal_places.Given as goal

abbrev pub invariant-loop-i : goal.invariant-loop-i
invariant-loop-i l = (l.i ≤ max l.first l.last) × (l.found ≡ places_told (numbers l.ps (position_at l.ps l.last) l.first l.i))
