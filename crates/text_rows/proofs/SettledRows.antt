-- SettledRows: each row computed.
-- Assumes nothing.
use mathlib.Core.Path.{refl}
use Rattle.move_rules.specs.After.{stood_before, stood_behind}
use Rattle.settled_rules.specs.Promises.{home_rank}
use Rattle.settled_rules.specs.Settled.{own_pawn, stepped_pawn, stepped_rank, usable}
use Rattle.text_rows.specs.SettledRows.{PawnsBeside}

pub pawns_beside : PawnsBeside
unfolding stood_before stood_behind home_rank own_pawn stepped_pawn stepped_rank usable
pawns_beside = record {
  c5 = refl;
  e5 = refl;
  nothing = refl;
  black_on_c5 = refl;
  black_on_e5 = refl;
  d4 = refl;
  f4 = refl;
  white_on_d4 = refl;
  file_a = refl;
  file_b = refl;
  file_g = refl;
  file_h = refl;
  b5_beside_none = refl;
  white_home = refl;
  black_home = refl;
}
