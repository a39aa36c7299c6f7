-- AfterMoves: each row computed.
-- Assumes nothing.
use mathlib.Core.Path.{refl}
use Rattle.answer.specs.Ascii.{ascii}
use Rattle.answer.specs.Numbers.{all_at_most, among, same}
use Rattle.square.specs.Piece.{kind_of, letter_of, piece_of}
use Rattle.square.specs.Square.{pair_told, read_square}
use Rattle.castle_rights.specs.CastleRights.{letters_of, letters_text}
use Rattle.board_builder.specs.BoardBuilder.{in_range, numbers}
use Rattle.fen_text.specs.Placement.{place_all, place_byte}
use Rattle.fen_text.specs.Read.{assembled, of_tokens, read_fen, rights_of, side_of, sided}
use Rattle.fen_text.specs.Token.{joined, onto, place_after, place_where, tokens}
use Rattle.fen_text.specs.Write.{digit_text, en_passant_text, fen_text, ranks_text, rights_text, run_text, slash_text, tail_text}
use Rattle.chess_move.specs.Coordinate.{promotion_named, read_move, with_dest, with_source}
use Rattle.move_rules.specs.After.{after_answer, after_parts, castles, colour_step, corner, enemy_pawn, file_after, full_after, half_after, one_more}
use Rattle.move_rules.specs.After.{pawn_removed}
use Rattle.move_rules.specs.After.{record_after, restarts, rights_after, rights_without, rook_moved, set_down, squares_after, steps_twice, stood_before}
use Rattle.move_rules.specs.After.{stood_behind}
use Rattle.move_rules.specs.After.{takes_in_passing, two_apart}
use Rattle.move_rules.specs.Leads.{comes_from, counters_from, counters_lead}
use Rattle.text_rows.specs.AfterMoves.{MovesAtTheEdge, SquaresNamed, RecordsThatFollow}

pub moves_at_the_edge : MovesAtTheEdge
unfolding ascii all_at_most among same kind_of letter_of piece_of pair_told read_square letters_of letters_text in_range numbers place_all place_byte
    assembled of_tokens read_fen rights_of side_of sided joined onto place_after place_where tokens digit_text en_passant_text fen_text ranks_text rights_text
    run_text slash_text tail_text promotion_named read_move with_dest with_source after_answer after_parts castles colour_step corner enemy_pawn file_after
    full_after half_after one_more pawn_removed record_after restarts rights_after rights_without rook_moved set_down squares_after steps_twice stood_before
    stood_behind takes_in_passing two_apart comes_from counters_from counters_lead
moves_at_the_edge = record {
  three_right = (refl, refl);
  three_left = (refl, refl);
  rank_below = (refl, refl);
  passing_right = (refl, refl);
  from_file_b = (refl, refl);
  nobody_passes = (refl, refl);
  three_ranks = (refl, refl);
  right_file = (refl, refl);
  nobody_steps = (refl, refl);
  knight_before = (refl, refl);
  knight_behind = (refl, refl);
  white_knight_behind = (refl, refl);
}

pub squares_named : SquaresNamed
unfolding ascii all_at_most among same kind_of letter_of piece_of pair_told read_square letters_of letters_text in_range numbers place_all place_byte
    assembled of_tokens read_fen rights_of side_of sided joined onto place_after place_where tokens digit_text en_passant_text fen_text ranks_text rights_text
    run_text slash_text tail_text promotion_named read_move with_dest with_source after_answer after_parts castles colour_step corner enemy_pawn file_after
    full_after half_after one_more pawn_removed record_after restarts rights_after rights_without rook_moved set_down squares_after steps_twice stood_before
    stood_behind takes_in_passing two_apart comes_from counters_from counters_lead
squares_named = record {
  castling = refl;
  in_passing = refl;
  knight = refl;
  taken = refl;
}

pub records_that_follow : RecordsThatFollow
unfolding ascii all_at_most among same kind_of letter_of piece_of pair_told read_square letters_of letters_text in_range numbers place_all place_byte
    assembled of_tokens read_fen rights_of side_of sided joined onto place_after place_where tokens digit_text en_passant_text fen_text ranks_text rights_text
    run_text slash_text tail_text promotion_named read_move with_dest with_source after_answer after_parts castles colour_step corner enemy_pawn file_after
    full_after half_after one_more pawn_removed record_after restarts rights_after rights_without rook_moved set_down squares_after steps_twice stood_before
    stood_behind takes_in_passing two_apart comes_from counters_from counters_lead
records_that_follow = record {
  follows = refl;
  other_rights = refl;
  longer = refl;
  led = refl;
  led_longer = refl;
  led_to_board = refl;
  short = refl;
  white = refl;
  black = refl;
  no_side_lem = refl;
  by_pawn = refl;
  onto_a_man = refl;
  half_under = refl;
  half_over = refl;
  full_under = refl;
  full_over = refl;
  leads = refl;
  leads_by_pawn = refl;
  leads_not = refl;
  leads_longer = refl;
  leads_short = refl;
}
