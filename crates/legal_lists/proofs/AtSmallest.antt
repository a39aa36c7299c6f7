-- The rows of whole lists, each computed.
-- Assumes nothing.
use mathlib.Core.Path.{refl}
use Rattle.square.specs.Piece.{kind_of}
use Rattle.move_rules.specs.After.{colour_step, enemy_pawn, two_apart, castles, corner, rook_moved, takes_in_passing, pawn_removed, set_down, squares_after}
use Rattle.move_laws.specs.Apart.{apart, files_apart, ranks_apart, distance, file_or_rank, diagonal, knights_move, adjoining, lower, upper, line_step}
use Rattle.move_laws.specs.Apart.{empty_up_to, clear}
use Rattle.move_laws.specs.Attack.{bishop_attacks, rook_attacks, queen_attacks}
use Rattle.move_laws.specs.Attack.{of_side, ahead, pawn_attacks, kind_attacks, attacks, attacked_below, attacked, king_attacked, in_check_below, in_check}
use Rattle.move_laws.specs.Move.{may_take, may_arrive, pawn_steps, pawn_steps_twice, pawn_captures, pawn_passes, pawn_moves, right_held, way_attacked}
use Rattle.move_laws.specs.Move.{king_castles, promotes, piece_moves, kind_moves}
use Rattle.answer.specs.Numbers.{all_at_most, among}
use Rattle.board_builder.specs.BoardBuilder.{in_range}
use Rattle.move_list.specs.MoveList.{list_in_range}
use Rattle.move_laws.specs.Legal.{own_rights, goes, legal_parts, is_legal, kept_if, legal_from, legal_moves, list_check, check_byte}
use Rattle.move_laws.specs.Judge.{outside_at, twice_at, judgement, judged_answer}
use Rattle.move_laws.specs.AtSmallest.{men}
use Rattle.legal_lists.specs.AtSmallest.{WholeLists}

pub whole_lists : WholeLists
unfolding kind_of colour_step enemy_pawn two_apart castles corner rook_moved takes_in_passing pawn_removed set_down squares_after apart files_apart
    ranks_apart distance file_or_rank diagonal knights_move adjoining lower upper line_step empty_up_to clear of_side ahead pawn_attacks bishop_attacks
    rook_attacks queen_attacks kind_attacks attacks attacked_below attacked king_attacked in_check_below in_check may_take may_arrive pawn_steps
    pawn_steps_twice pawn_captures pawn_passes pawn_moves right_held way_attacked king_castles promotes piece_moves kind_moves own_rights goes legal_parts
    is_legal men kept_if legal_from legal_moves all_at_most among in_range list_in_range list_check check_byte outside_at twice_at judgement judged_answer
whole_lists = record {
  alone = refl;
  king_right = refl;
  first_move = refl;
  pawn_last = refl;
  pawn_last_black = refl;
  mate = refl;
  mate_check = refl;
  stalemate = refl;
  stalemate_no_check = refl;
  many_gives_6 = refl;
  many_judged_6 = refl;
}
