-- `lists` of lib.rt meets its contract: r ≡ lists_move (now s.entry) m.
use mathlib.Core.Path.{◌≡◌}
use lib.ListN.{get_or}
use Rattle.position.specs.Layout.{length_at}
use Rattle.answer.specs.Numbers.{among}
use Rattle.stored_position.specs.Bytes.{lists_move}
use Rattle.stored_position.proofs.Listing.{moves_left}
use Rattle.stored_position.proofs.lists.Given as goal

abbrev pub invariant-loop-i : goal.invariant-loop-i
invariant-loop-i l = among l.m (moves_left l.p (get_or l.p length_at 0) l.i) ≡ lists_move l.s l.m
