-- The rows, each computed.
-- Assumes nothing.
use mathlib.Core.Path.{refl}
use Rattle.answer.specs.Numbers.{all_at_most}
use Rattle.square.specs.Piece.{kind_of}
use Rattle.board_builder.specs.BoardBuilder.{in_range}
use Rattle.move_rules.specs.After.{colour_step, enemy_pawn, two_apart, castles, corner, rook_moved, takes_in_passing, pawn_removed, set_down}
use Rattle.move_rules.specs.After.{squares_after, rights_without, rights_after, steps_twice, stood_before, stood_behind, file_after, after_parts}
use Rattle.move_rules.specs.After.{restarts, one_more, half_after, full_after}
use Rattle.settled_rules.specs.Settled.{stepped_rank, stepped_pawn, own_pawn, usable, settled_file, settled, settled_answer}
use Rattle.settled_rules.specs.AtSmallest.{Rows, CallRows}

pub rows : Rows
unfolding kind_of colour_step enemy_pawn two_apart castles corner rook_moved takes_in_passing pawn_removed set_down squares_after rights_without rights_after
    steps_twice stood_before stood_behind file_after after_parts restarts one_more half_after full_after stepped_rank stepped_pawn own_pawn usable
    settled_file settled
rows = record {
  alone = (refl, refl);
  wrong_rank = (refl, refl);
  blacks_wrong_rank = (refl, refl);
  wrong_colour = (refl, refl);
  king = (refl, refl);
  two_away = (refl, refl);
  white = (refl, refl);
  black = (refl, refl);
  file_a = (refl, refl, refl);
  blacks_file_a = (refl, refl, refl);
  file_h = (refl, refl, refl);
  blacks_file_h = (refl, refl, refl);
  none = (refl, refl);
  not_there = (refl, refl);
  others = refl;
  others_kept = refl;
  unsettled = refl;
  unsettled_file = refl;
}

pub call_rows : CallRows
unfolding all_at_most in_range stood_before stood_behind stepped_rank stepped_pawn own_pawn usable settled_file settled settled_answer
call_rows = record { file_nine = refl; no_record = refl; clock = refl; cleared = refl }
