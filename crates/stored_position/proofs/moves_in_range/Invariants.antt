-- `moves_in_range` of lib.rt meets its contract: r ≡ all_at_most last_move (moves_from (now s.entry) moves_at entries).
use mathlib.Core.Path.{◌≡◌}
use mathlib.Core.Bool.{◌&&◌}
use lib.Dec.{eqb}
use Rattle.answer.specs.Numbers.{all_at_most}
use Rattle.chess_move.specs.Number.{last_move}
use Rattle.position.specs.Layout.{moves_at, moves_from}
use Rattle.stored_position.proofs.Listing.{moves_left}
use Rattle.stored_position.proofs.moves_in_range.Given as goal

abbrev pub invariant-loop-i : goal.invariant-loop-i
invariant-loop-i l =
    eqb l.above 0 && all_at_most last_move (moves_left l.s l.entries l.i) ≡ all_at_most last_move (moves_from l.s moves_at l.entries)
