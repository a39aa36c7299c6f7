-- A game's roll at its smallest, each row computed.
-- Assumes nothing.
use mathlib.Core.Path.{refl}
use Rattle.answer.specs.Ascii.{ascii}
use Rattle.answer.specs.Numbers.{among}
use Rattle.square.specs.Piece.{kind_of, piece_of}
use Rattle.square.specs.Square.{pair_told, read_square}
use Rattle.board_builder.specs.BoardBuilder.{numbers}
use Rattle.fen_text.specs.Full.{clocked, counter_of, counters_read, digits_from, numbered, read_full, start_behind}
use Rattle.fen_text.specs.Placement.{place_all, place_byte}
use Rattle.fen_text.specs.Read.{assembled, of_tokens, read_fen, rights_of, side_of, sided}
use Rattle.fen_text.specs.Token.{joined, onto, place_after, place_where, tokens}
use Rattle.chess_move.specs.Coordinate.{promotion_named, read_move, with_dest, with_source}
use Rattle.move_rules.specs.After.{after_parts, castles, colour_step, corner, enemy_pawn, file_after, full_after, half_after, one_more, pawn_removed, restarts}
use Rattle.move_rules.specs.After.{rights_after, rights_without, rook_moved, set_down, squares_after, steps_twice, stood_before, stood_behind}
use Rattle.move_rules.specs.After.{takes_in_passing, two_apart}
use Rattle.roll_text.specs.Number.{behind, groups, read_groups}
use Rattle.roll_text.specs.Roll.{action_text, actions_text, coded, counts_text, full_by, half_by, is_code, largest_numbers, moved_by, next_action, numbers_text}
use Rattle.roll_text.specs.Roll.{one_number, put_action, put_number, read_actions, read_by, read_counters, read_numbers, text_by, with_actions, with_count}
use Rattle.roll_text.specs.Roll.{with_counts}
use Rattle.roll_text.specs.Roll.{with_front}
use Rattle.game_text.specs.Game.{play_on}
use Rattle.game_rolls.specs.Rolls.{move_actions, moves_rolled, replayed}
use Rattle.game_rolls.specs.AtSmallest.{RollsAtSmallest}

pub rolls_at_smallest : RollsAtSmallest
unfolding ascii among kind_of piece_of pair_told read_square numbers clocked counter_of counters_read digits_from numbered read_full start_behind place_all
    place_byte assembled of_tokens read_fen rights_of side_of sided joined onto place_after place_where tokens promotion_named read_move with_dest with_source
    after_parts castles colour_step corner enemy_pawn file_after full_after half_after one_more pawn_removed restarts rights_after rights_without rook_moved
    set_down squares_after steps_twice stood_before stood_behind takes_in_passing two_apart behind groups read_groups action_text actions_text coded
    counts_text full_by half_by is_code largest_numbers moved_by next_action numbers_text one_number put_action put_number read_actions read_by read_counters
    read_numbers text_by with_actions with_count with_counts with_front play_on move_actions moves_rolled replayed
rolls_at_smallest = record {
  positions = refl;
  roll = refl;
  refused = refl;
  actions = refl;
  moves = refl;
}
