-- GameSteps: each row computed.
-- Assumes nothing.
use mathlib.Core.Path.{refl}
use Rattle.answer.specs.Answer.{write_answer, write_bytes}
use Rattle.answer.specs.Ascii.{ascii}
use Rattle.answer.specs.Numbers.{all_at_most, among, same}
use Rattle.square.specs.Piece.{kind_of, letter_of, piece_of}
use Rattle.square.specs.Square.{read_square}
use Rattle.castle_rights.specs.CastleRights.{letters_of, letters_text}
use Rattle.board_builder.specs.BoardBuilder.{in_range}
use Rattle.fen_text.specs.Placement.{place_all, place_byte}
use Rattle.fen_text.specs.Read.{assembled, of_tokens, read_fen, rights_of, side_of, sided}
use Rattle.fen_text.specs.Token.{joined, onto, place_after, place_where, tokens}
use Rattle.fen_text.specs.Write.{digit_text, en_passant_text, fen_text, ranks_text, rights_text, run_text, slash_text, tail_text}
use Rattle.move_list.specs.MoveList.{count, first_of, list_in_range}
use Rattle.move_rules.specs.After.{after_parts, castles, colour_step, corner, enemy_pawn, file_after, full_after, half_after, one_more, pawn_removed, restarts}
use Rattle.move_rules.specs.After.{rights_after, rights_without, rook_moved, set_down, squares_after, steps_twice, stood_before, stood_behind}
use Rattle.move_rules.specs.After.{takes_in_passing, two_apart}
use Rattle.san_text.specs.Form.{castled, read_answer, resolved}
use Rattle.san_text.specs.Name.{changes_files, head_of, optional, piece_letter, promotion_letter, takes_of}
use Rattle.san_text.specs.Place.{place_from, square_at}
use Rattle.san_text.specs.Resolve.{agrees, castle, castling_move, fits, sole_that}
use Rattle.san_text.specs.Standard.{ends_here, is_castling, read_standard, standard_captures, standard_castles, standard_dest, standard_end, standard_promotion}
use Rattle.san_text.specs.Standard.{standard_tail, standard_text, with_equals}
use Rattle.san_text.specs.Text.{after, is_check, piece_kind, piece_or, promotion_kind, read_file, read_piece, read_rank, read_takes}
use Rattle.pgn_text.specs.Between.{cross, cross_met, crossed_from}
use Rattle.pgn_text.specs.Bytes.{begins_with, in_move, in_run, is_digit, is_letter, is_sign, is_white, onward, run_length, starts_move}
use Rattle.pgn_text.specs.Main.{first_main, next_main}
use Rattle.pgn_text.specs.Token.{brace_comment, glyph, is_result, line_comment, number, token}
use Rattle.pgn_text.specs.Walk.{at_end, first_move, met, move_found, next_move, no_move_found, part, walk, walk_from}
use Rattle.game_text.specs.Game.{game_along, play_on, played_in, played_on, positions_of}
use Rattle.game_text.specs.Narrowed.{only, speaks_of}
use Rattle.game_text.specs.Step.{answers_of, bytes_from, bytes_read, game_step, game_step_bytes, play_answer, step_from, step_read, step_written, stepping}
use Rattle.game_text.specs.VariationPromises.{played_at, played_through}
use Rattle.game_text.specs.Variations.{entered, moved_on, plays_from, variations_of}
use Rattle.rows.specs.GameSteps.{StepsInNumbers, GamesInNumbers, VariationsInNumbers}

pub steps_in_numbers : StepsInNumbers
unfolding write_answer write_bytes ascii all_at_most among same kind_of letter_of piece_of read_square letters_of letters_text in_range place_all place_byte
    assembled of_tokens read_fen rights_of side_of sided joined onto place_after place_where tokens digit_text en_passant_text fen_text ranks_text rights_text
    run_text slash_text tail_text count first_of list_in_range after_parts castles colour_step corner enemy_pawn file_after full_after half_after one_more
    pawn_removed restarts rights_after rights_without rook_moved set_down squares_after steps_twice stood_before stood_behind takes_in_passing two_apart
    castled read_answer resolved changes_files head_of optional piece_letter promotion_letter takes_of place_from square_at agrees castle castling_move fits
    sole_that ends_here is_castling read_standard standard_captures standard_castles standard_dest standard_end standard_promotion standard_tail standard_text
    with_equals after is_check piece_kind piece_or promotion_kind read_file read_piece read_rank read_takes cross cross_met crossed_from begins_with in_move
    in_run is_digit is_letter is_sign is_white onward run_length starts_move first_main next_main brace_comment glyph is_result line_comment number token
    at_end first_move met move_found next_move no_move_found part walk walk_from game_along play_on played_in played_on positions_of only speaks_of answers_of
    bytes_from bytes_read game_step game_step_bytes play_answer step_from step_read step_written stepping played_at played_through entered moved_on plays_from
    variations_of
steps_in_numbers = record {
  played = refl;
  too_short_fact = refl;
  not_listed_fact = refl;
  unknown_byte = refl;
  none_left_lem = refl;
  by_itself = refl;
  none_written = refl;
  from_byte_0 = refl;
  taking = refl;
  asked_taking = refl;
  one_step = refl;
  three_steps = refl;
  asked = refl;
  asked_unknown = refl;
  asked_refused = refl;
}

pub games_in_numbers : GamesInNumbers
unfolding write_answer write_bytes ascii all_at_most among same kind_of letter_of piece_of read_square letters_of letters_text in_range place_all place_byte
    assembled of_tokens read_fen rights_of side_of sided joined onto place_after place_where tokens digit_text en_passant_text fen_text ranks_text rights_text
    run_text slash_text tail_text count first_of list_in_range after_parts castles colour_step corner enemy_pawn file_after full_after half_after one_more
    pawn_removed restarts rights_after rights_without rook_moved set_down squares_after steps_twice stood_before stood_behind takes_in_passing two_apart
    castled read_answer resolved changes_files head_of optional piece_letter promotion_letter takes_of place_from square_at agrees castle castling_move fits
    sole_that ends_here is_castling read_standard standard_captures standard_castles standard_dest standard_end standard_promotion standard_tail standard_text
    with_equals after is_check piece_kind piece_or promotion_kind read_file read_piece read_rank read_takes cross cross_met crossed_from begins_with in_move
    in_run is_digit is_letter is_sign is_white onward run_length starts_move first_main next_main brace_comment glyph is_result line_comment number token
    at_end first_move met move_found next_move no_move_found part walk walk_from game_along play_on played_in played_on positions_of only speaks_of answers_of
    bytes_from bytes_read game_step game_step_bytes play_answer step_from step_read step_written stepping played_at played_through entered moved_on plays_from
    variations_of
games_in_numbers = record {
  moves = refl;
  moves_refused = refl;
  positions_refused = refl;
  with_the_start = refl;
  played_on = refl;
  long = refl;
  black_long = refl;
  short = refl;
  black_short = refl;
  no_text = refl;
}

pub variations_in_numbers : VariationsInNumbers
unfolding write_answer write_bytes ascii all_at_most among same kind_of letter_of piece_of read_square letters_of letters_text in_range place_all place_byte
    assembled of_tokens read_fen rights_of side_of sided joined onto place_after place_where tokens digit_text en_passant_text fen_text ranks_text rights_text
    run_text slash_text tail_text count first_of list_in_range after_parts castles colour_step corner enemy_pawn file_after full_after half_after one_more
    pawn_removed restarts rights_after rights_without rook_moved set_down squares_after steps_twice stood_before stood_behind takes_in_passing two_apart
    castled read_answer resolved changes_files head_of optional piece_letter promotion_letter takes_of place_from square_at agrees castle castling_move fits
    sole_that ends_here is_castling read_standard standard_captures standard_castles standard_dest standard_end standard_promotion standard_tail standard_text
    with_equals after is_check piece_kind piece_or promotion_kind read_file read_piece read_rank read_takes cross cross_met crossed_from begins_with in_move
    in_run is_digit is_letter is_sign is_white onward run_length starts_move first_main next_main brace_comment glyph is_result line_comment number token
    at_end first_move met move_found next_move no_move_found part walk walk_from game_along play_on played_in played_on positions_of only speaks_of answers_of
    bytes_from bytes_read game_step game_step_bytes play_answer step_from step_read step_written stepping played_at played_through entered moved_on plays_from
    variations_of
variations_in_numbers = record {
  one_bracket = refl;
  two_brackets = refl;
  no_line = refl;
  from_now = refl;
  from_nowhere = refl;
  moved = refl;
  moved_nowhere = refl;
  first_bracket = refl;
  through = refl;
  through_two = refl;
  through_refused = refl;
  through_unknown = refl;
}
