-- JudgedRows: each row computed.
-- Assumes nothing.
use mathlib.Core.Path.{refl}
use Rattle.answer.specs.Numbers.{all_at_most, among}
use Rattle.square.specs.Piece.{kind_of}
use Rattle.board_builder.specs.BoardBuilder.{in_range}
use Rattle.move_list.specs.MoveList.{list_in_range}
use Rattle.move_rules.specs.After.{after_parts, castles, colour_step, corner, enemy_pawn, file_after, full_after, half_after, one_more, pawn_removed, restarts}
use Rattle.move_rules.specs.After.{rights_after, rights_without, rook_moved, set_down, squares_after, steps_twice, stood_before, stood_behind}
use Rattle.move_rules.specs.After.{takes_in_passing, two_apart}
use Rattle.move_laws.specs.Apart.{adjoining, apart, clear, diagonal, distance, empty_up_to, file_or_rank, files_apart, knights_move, line_step, lower}
use Rattle.move_laws.specs.Apart.{ranks_apart}
use Rattle.move_laws.specs.Apart.{upper}
use Rattle.move_laws.specs.AtSmallest.{men}
use Rattle.move_laws.specs.Attack.{ahead, attacked, attacked_below, attacks, bishop_attacks, in_check, in_check_below, kind_attacks, king_attacked, of_side}
use Rattle.move_laws.specs.Attack.{pawn_attacks, queen_attacks, rook_attacks}
use Rattle.move_laws.specs.Judge.{judged_answer, judgement, outside_at, twice_at}
use Rattle.move_laws.specs.Legal.{check_answer, check_byte, goes, is_legal, kept_if, legal_from, legal_moves, legal_parts, list_check, own_rights}
use Rattle.move_laws.specs.Move.{kind_moves, king_castles, may_arrive, may_take, pawn_captures, pawn_moves, pawn_passes, pawn_steps, pawn_steps_twice}
use Rattle.move_laws.specs.Move.{piece_moves}
use Rattle.move_laws.specs.Move.{promotes, right_held, way_attacked}
use Rattle.move_laws.specs.Promises.{rises, rises_from}
use Rattle.legal_lists.specs.JudgedRows.{JudgedInNumbers, ListsInNumbers}

pub judged_in_numbers : JudgedInNumbers
unfolding all_at_most among kind_of in_range list_in_range after_parts castles colour_step corner enemy_pawn file_after full_after half_after one_more
    pawn_removed restarts rights_after rights_without rook_moved set_down squares_after steps_twice stood_before stood_behind takes_in_passing two_apart
    adjoining apart clear diagonal distance empty_up_to file_or_rank files_apart knights_move line_step lower ranks_apart upper men ahead attacked
    attacked_below attacks bishop_attacks in_check in_check_below kind_attacks king_attacked of_side pawn_attacks queen_attacks rook_attacks judged_answer
    judgement outside_at twice_at check_answer check_byte goes is_legal kept_if legal_from legal_moves legal_parts list_check own_rights kind_moves
    king_castles may_arrive may_take pawn_captures pawn_moves pawn_passes pawn_steps pawn_steps_twice piece_moves promotes right_held way_attacked rises
    rises_from
judged_in_numbers = record {
  nothing_wrong = refl;
  not_legal = refl;
  twice = refl;
  missing = refl;
  byte = refl;
  no_record = refl;
  no_byte = refl;
  no_list = refl;
  outside = refl;
  none_outside = refl;
  again = refl;
  none_again = refl;
}

pub lists_in_numbers : ListsInNumbers
unfolding all_at_most among kind_of in_range list_in_range after_parts castles colour_step corner enemy_pawn file_after full_after half_after one_more
    pawn_removed restarts rights_after rights_without rook_moved set_down squares_after steps_twice stood_before stood_behind takes_in_passing two_apart
    adjoining apart clear diagonal distance empty_up_to file_or_rank files_apart knights_move line_step lower ranks_apart upper men ahead attacked
    attacked_below attacks bishop_attacks in_check in_check_below kind_attacks king_attacked of_side pawn_attacks queen_attacks rook_attacks judged_answer
    judgement outside_at twice_at check_answer check_byte goes is_legal kept_if legal_from legal_moves legal_parts list_check own_rights kind_moves
    king_castles may_arrive may_take pawn_captures pawn_moves pawn_passes pawn_steps pawn_steps_twice piece_moves promotes right_held way_attacked rises
    rises_from
lists_in_numbers = record {
  kept = refl;
  left_out = refl;
  of_two = refl;
  of_one = refl;
  no_record_listed = refl;
  in_check_fact = refl;
  in_no_check = refl;
  black_in_check = refl;
  said = refl;
  not_said = refl;
  leaves = refl;
  leaves_not = refl;
  rising = refl;
  level = refl;
  falling = refl;
  none = refl;
  rising_from = refl;
}
