-- The sentences of orders 9 and 12 at their smallest, each row computed.
-- Assumes nothing.
use mathlib.Core.Path.{refl}
use Rattle.answer.specs.Numbers.{all_at_most}
use Rattle.square.specs.Piece.{kind_of}
use Rattle.board_builder.specs.BoardBuilder.{in_range}
use Rattle.move_rules.specs.After.{colour_step, enemy_pawn, two_apart, castles, corner, rook_moved, takes_in_passing, pawn_removed, set_down}
use Rattle.move_rules.specs.After.{squares_after, rights_without, rights_after, steps_twice, stood_before, stood_behind, file_after, after_parts}
use Rattle.move_rules.specs.After.{restarts, one_more, half_after, full_after, after_answer}
use Rattle.move_rules.specs.AtSmallest.{Rows, CounterRows, CountersRefused}

pub rows : Rows
unfolding kind_of colour_step enemy_pawn two_apart castles corner rook_moved takes_in_passing pawn_removed set_down squares_after rights_without rights_after
    steps_twice stood_before stood_behind file_after after_parts
rows = record {
  moved = refl;
  takes = refl;
  promoted = refl;
  any_promoted = refl;
  castling = refl;
  queen_side = refl;
  anywhere = refl;
  no_rook = refl;
  one_file = refl;
  no_king = refl;
  passing = refl;
  clears_any = refl;
  not_empty = refl;
  rights = refl;
  double = refl;
  double_behind = refl;
  alone = refl;
  own_pawn = refl;
  single = refl;
  no_pawn = refl;
  edge = refl;
  last = refl;
  empty = refl;
}

pub counter_rows : CounterRows
unfolding kind_of two_apart castles restarts one_more half_after full_after
counter_rows = record {
  quiet = (refl, refl);
  by_black = (refl, refl);
  blacks_turn = (refl, refl);
  whites_turn = (refl, refl);
  capture = (refl, refl);
  own_man = (refl, refl);
  pawn_moves = (refl, refl);
  in_passing = (refl, refl);
  no_pawn_promoted = (refl, refl);
  rights_leave_it = (refl, refl);
  over_a_man = (refl, refl);
  castling_onto = (refl, refl);
  own_square = (refl, refl);
  nobody = (refl, refl);
  nobody_stays = (refl, refl);
  nobody_captures = (refl, refl);
  stops = (refl, refl);
  begins_again = (refl, refl);
}

pub counters_refused : CountersRefused
unfolding all_at_most in_range after_answer
counters_refused = record { clock = refl; number = refl; largest = refl }
