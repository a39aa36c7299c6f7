-- The rights of squares, each kind of square once, and both calls on rights, each computed.
-- Assumes nothing.
use mathlib.Core.Path.{refl}
use Rattle.castle_rights.specs.AtSmallest.{RightsAtSmallest, SumsAtSmallest}

pub rights_at_smallest : RightsAtSmallest
rights_at_smallest = record {
  white_a1 = refl;
  white_b1 = refl;
  white_c1 = refl;
  white_d1 = refl;
  white_f1 = refl;
  white_g1 = refl;
  white_a2 = refl;
  white_e1 = refl;
  white_h1 = refl;
  white_a8 = refl;
  black_a8 = refl;
  black_e8 = refl;
  black_h8 = refl;
  black_h1 = refl;
  no_colour = refl;
  no_square = refl;
  last_square = refl;
}

pub sums_at_smallest : SumsAtSmallest
sums_at_smallest = record {
  adds_king = refl;
  adds_queen = refl;
  adds_both = refl;
  adds_again = refl;
  adds_to_none = refl;
  adds_none = refl;
  takes_king = refl;
  takes_queen = refl;
  takes_all = refl;
  takes_nothing = refl;
  takes_from_none = refl;
  takes_none = refl;
}
