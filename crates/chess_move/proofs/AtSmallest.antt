-- Order 3 at its smallest inputs, each computed.
-- Assumes nothing.
use mathlib.Core.Path.{refl}
use Rattle.answer.specs.Ascii.{ascii}
use Rattle.square.specs.Square.{read_square, pair_told}
use Rattle.chess_move.specs.Coordinate.{promotion_named, with_dest, with_source, read_move}
use Rattle.chess_move.specs.AtSmallest.{MovesAtSmallest}

pub moves_at_smallest : MovesAtSmallest
unfolding ascii read_square pair_told promotion_named with_dest with_source read_move
moves_at_smallest = record {
  nothing = refl;
  one_byte = refl;
  both_bad = refl;
  bad_rank = refl;
  first_pair_first = refl;
  no_second_pair = refl;
  half_a_pair = refl;
  second_both_bad = refl;
  as_players_type = refl;
  fifth = refl;
  move = refl;
}
