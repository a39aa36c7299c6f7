-- One list in another order than the others, computed.
-- Assumes nothing.
use mathlib.Core.Path.{refl}
use Rattle.answer.specs.Numbers.{same}
use Rattle.square.specs.Piece.{kind_of}
use Rattle.position.specs.Repeats.{equal, times}
use Rattle.claim.specs.Emptying.{irreversible, rights_differ}
use Rattle.game_rules.specs.Rules.{current, ruling, claim_stands}
use Rattle.laws.specs.Laws.{moves_made, since_last, laws_count, laws_claim_stands}
use Rattle.log_lists.specs.Relisted.{game_of}
use Rattle.log_lists.specs.AtSmallest.{AtSmallest, RelistedAtSmallest}

pub at_smallest : AtSmallest
unfolding same kind_of equal times irreversible rights_differ current ruling claim_stands moves_made since_last laws_count laws_claim_stands
at_smallest = record {
  unequal = refl;
  claim = refl;
  no_claim = refl;
  laws_claim = refl;
  no_laws_claim = refl;
}

pub relisted_at_smallest : RelistedAtSmallest
unfolding game_of
relisted_at_smallest = record {
  position = refl;
  moved = refl;
  others = refl;
}
