-- `has_move` of lib.rt meets its contract: r ≡ among m (moves_from (now s.entry) moves_at entries).
use mathlib.Core.Path.{◌≡◌}
use mathlib.Core.Bool.{◌||◌}
use Rattle.answer.specs.Numbers.{among}
use Rattle.position.specs.Layout.{moves_at, moves_from}
use Rattle.stored_position.proofs.Listing.{moves_left}
use Rattle.stored_position.proofs.has_move.Given as goal

abbrev pub invariant-loop-i : goal.invariant-loop-i
invariant-loop-i l = l.found || among l.m (moves_left l.s l.entries l.i) ≡ among l.m (moves_from l.s moves_at l.entries)
