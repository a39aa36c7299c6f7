-- Both counts, the run and the counters at their smallest, each computed.
-- Assumes nothing.
use mathlib.Core.Path.{refl}
use Rattle.square.specs.Piece.{kind_of}
use Rattle.claim.specs.Emptying.{irreversible, rights_differ}
use Rattle.game_rules.specs.Rules.{current, moves, ruling}
use Rattle.laws.specs.Laws.{moves_made, since_last, laws_count}
use Rattle.laws.specs.Clock.{stopped_at, clock_from, full_from, first_position}
use Rattle.laws.specs.AtSmallest.{CountsAtSmallest, CountersAtSmallest}

pub counts_at_smallest : CountsAtSmallest
unfolding kind_of irreversible rights_differ current ruling moves_made since_last laws_count
counts_at_smallest = record {
  none_made = refl;
  laws_go_on = refl;
  crate_restarts = refl;
  run_restarts = refl;
  by_a_pawn = refl;
  after_a_pawn = refl;
  by_a_capture = refl;
  offer_is_none = refl;
}

pub counters_at_smallest : CountersAtSmallest
unfolding kind_of irreversible current moves moves_made since_last laws_count stopped_at clock_from full_from first_position
counters_at_smallest = record {
  begins = refl;
  runs_on = refl;
  rights_leave_it = refl;
  captured = refl;
  after_a_capture = refl;
  offered = refl;
  by_white = refl;
  by_black = refl;
  by_both = refl;
  clock_stops = refl;
  number_stops = refl;
}
