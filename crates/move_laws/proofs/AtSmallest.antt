-- The rows of articles 3.1 to 3.9, each computed.
-- Assumes nothing.
use mathlib.Core.Path.{refl}
use Rattle.square.specs.Piece.{kind_of}
use Rattle.move_rules.specs.After.{colour_step, enemy_pawn, two_apart, castles, corner, rook_moved, takes_in_passing, pawn_removed, set_down, squares_after}
use Rattle.move_laws.specs.Apart.{apart, files_apart, ranks_apart, distance, file_or_rank, diagonal, knights_move, adjoining, lower, upper, line_step}
use Rattle.move_laws.specs.Apart.{empty_up_to, clear}
use Rattle.move_laws.specs.Attack.{bishop_attacks, rook_attacks, queen_attacks}
use Rattle.move_laws.specs.Attack.{of_side, ahead, pawn_attacks, kind_attacks, attacks, attacked_below, attacked, king_attacked, in_check_below, in_check}
use Rattle.move_laws.specs.Move.{may_take, may_arrive, pawn_steps, pawn_steps_twice, pawn_captures, pawn_passes, pawn_moves, right_held, way_attacked}
use Rattle.move_laws.specs.Move.{king_castles, promotes, piece_moves, kind_moves}
use Rattle.move_laws.specs.Legal.{own_rights, goes, legal_parts, is_legal}
use Rattle.move_laws.specs.AtSmallest.{men, Rows}

pub rows : Rows
unfolding kind_of colour_step enemy_pawn two_apart castles corner rook_moved takes_in_passing pawn_removed set_down squares_after apart files_apart
    ranks_apart distance file_or_rank diagonal knights_move adjoining lower upper line_step empty_up_to clear of_side ahead pawn_attacks bishop_attacks
    rook_attacks queen_attacks kind_attacks attacks attacked_below attacked king_attacked in_check_below in_check may_take may_arrive pawn_steps
    pawn_steps_twice pawn_captures pawn_passes pawn_moves right_held way_attacked king_castles promotes piece_moves kind_moves own_rights goes legal_parts
    is_legal men
rows = record {
  own_man = refl;
  captures = refl;
  no_king_taken = refl;
  nothing_moves = refl;
  not_mine = refl;
  bishop = refl;
  bishop_down = refl;
  bishop_other = refl;
  bishop_file = refl;
  bishop_edge = refl;
  rook = refl;
  rook_rank = refl;
  rook_diagonal = refl;
  queen_file = refl;
  queen_rank = refl;
  queen_diagonal = refl;
  queen_jump = refl;
  over_bishop = refl;
  over_rook = refl;
  over_queen = refl;
  over_far = refl;
  knight = refl;
  knight_wide = refl;
  knight_straight = refl;
  knight_edge = refl;
  pawn = refl;
  pawn_black = refl;
  pawn_back = refl;
  pawn_blocked = refl;
  pawn_aside = refl;
  pawn_twice = refl;
  pawn_twice_black = refl;
  pawn_twice_third = refl;
  pawn_twice_over = refl;
  pawn_twice_onto = refl;
  pawn_first = refl;
  pawn_first_twice = refl;
  pawn_takes = refl;
  pawn_takes_black = refl;
  pawn_takes_behind = refl;
  pawn_takes_edge = refl;
  passing = refl;
  passing_black = refl;
  passing_unmarked = refl;
  passing_other_file = refl;
  passing_no_pawn = refl;
  passing_own_pawn = refl;
  passing_rank = refl;
  passing_onto = refl;
  promotes = refl;
  promotes_knight = refl;
  promotes_black = refl;
  promotes_must = refl;
  promotes_king = refl;
  promotes_pawn = refl;
  promotes_early = refl;
  promotes_piece = refl;
  king = refl;
  king_far = refl;
  castles_short = refl;
  castles_long = refl;
  castles_black = refl;
  castles_black_long = refl;
  castles_lost = refl;
  castles_no_rook = refl;
  castles_other_rook = refl;
  castles_away = refl;
  castles_blocked = refl;
  castles_blocked_b = refl;
  castles_out = refl;
  castles_through = refl;
  castles_into = refl;
  castles_rook_attacked = refl;
  castles_b = refl;
  castles_pawn = refl;
  pinned_file = refl;
  pinned_rank = refl;
  pinned_diagonal = refl;
  pinned_other = refl;
  pinned_along = refl;
  pinned_takes = refl;
  pinned_not = refl;
  leaves = refl;
  meets_going = refl;
  meets_between = refl;
  meets_taking_knight = refl;
  along_ray = refl;
  double = refl;
  next_to_king = refl;
  guarded = refl;
  unguarded = refl;
  into_pawn = refl;
  before_pawn = refl;
  passing_pinned = refl;
  passing_meets = refl;
  no_king = refl;
  two_kings = refl;
  in_check_fact = refl;
  in_check_behind = refl;
  in_check_own = refl;
  in_check_black = refl;
}
