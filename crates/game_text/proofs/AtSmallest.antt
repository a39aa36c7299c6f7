-- The rows, each computed.
-- Assumes nothing.
use mathlib.Core.Path.{refl}
use Rattle.answer.specs.Answer.{write_answer, write_bytes}
use Rattle.answer.specs.Ascii.{ascii}
use Rattle.answer.specs.Numbers.{all_at_most, same, among}
use Rattle.square.specs.Piece.{letter_of, kind_of}
use Rattle.board_builder.specs.BoardBuilder.{in_range}
use Rattle.move_list.specs.MoveList.{list_in_range, count, first_of}
use Rattle.fen_text.specs.Write.{digit_text, run_text, slash_text, ranks_text, rights_text, en_passant_text, tail_text, fen_text}
use Rattle.move_rules.specs.After.{colour_step, enemy_pawn, two_apart, castles, corner, rook_moved, takes_in_passing, pawn_removed, set_down}
use Rattle.move_rules.specs.After.{squares_after, rights_without, rights_after, steps_twice, stood_before, stood_behind, file_after, after_parts}
use Rattle.move_rules.specs.After.{restarts, one_more, half_after, full_after}
use Rattle.pgn_text.specs.Bytes.{is_white, is_digit, is_letter, starts_move, is_sign, in_move, in_run, onward, run_length, begins_with}
use Rattle.pgn_text.specs.Token.{is_result, number, glyph, brace_comment, line_comment, token}
use Rattle.pgn_text.specs.Walk.{at_end, met, walk, walk_from, no_move_found, move_found, part}
use Rattle.pgn_text.specs.Between.{crossed_from, cross, cross_met}
use Rattle.pgn_text.specs.Main.{first_main, next_main}
use Rattle.san_text.specs.Place.{place_from, square_at}
use Rattle.san_text.specs.Text.{promotion_kind, piece_kind, is_check, after, piece_or, read_takes, read_rank, read_file, read_piece}
use Rattle.san_text.specs.Resolve.{agrees, fits, sole_that, castling_move, castle}
use Rattle.san_text.specs.Form.{castled, resolved, read_answer}
use Rattle.san_text.specs.Name.{changes_files, takes_of}
use Rattle.san_text.specs.Standard.{ends_here, standard_end, standard_promotion, standard_dest, is_castling, read_standard, standard_captures, standard_castles}
use Rattle.game_text.specs.Game.{played_on, game_along, positions_of}
use Rattle.game_text.specs.Step.{step_written, step_read, bytes_read, play_answer, play_bytes, step_from, bytes_from, game_step, game_step_bytes}
use Rattle.game_text.specs.Variations.{entered, plays_from, moved_on, variations_of, VariationRows}
use Rattle.game_text.specs.Narrowed.{speaks_of, only}
use Rattle.game_text.specs.AtSmallest.{GameRows, StepRows, PlayRows, NarrowRows}

pub game_rows : GameRows
unfolding ascii all_at_most same among kind_of in_range list_in_range count first_of colour_step enemy_pawn two_apart castles corner rook_moved
    takes_in_passing pawn_removed set_down squares_after rights_without rights_after steps_twice stood_before stood_behind file_after after_parts restarts
    one_more half_after full_after is_white is_digit is_letter starts_move is_sign in_move in_run onward run_length begins_with is_result number glyph
    brace_comment line_comment token at_end met walk walk_from part place_from square_at promotion_kind piece_kind is_check after piece_or read_takes
    read_rank read_file read_piece agrees fits sole_that castling_move castle castled resolved read_answer changes_files takes_of ends_here standard_end
    standard_promotion standard_dest is_castling read_standard standard_captures standard_castles played_on game_along positions_of
game_rows = record {
  played = refl;
  positions = refl;
  nothing = refl;
  refused = refl;
  unknown = refl;
  left_open_fact = refl;
  out_of_range_fact = refl;
  not_looked_at = refl;
}

pub step_rows : StepRows
unfolding ascii all_at_most same among letter_of kind_of in_range list_in_range count first_of write_answer write_bytes digit_text run_text slash_text
    ranks_text rights_text en_passant_text tail_text fen_text colour_step enemy_pawn two_apart castles corner rook_moved takes_in_passing pawn_removed
    set_down squares_after rights_without rights_after steps_twice stood_before stood_behind file_after after_parts restarts one_more half_after full_after
    is_white is_digit is_letter starts_move is_sign in_move in_run onward run_length begins_with is_result number glyph brace_comment line_comment token
    at_end met walk walk_from no_move_found move_found part first_main next_main place_from square_at promotion_kind piece_kind is_check after piece_or
    read_takes read_rank read_file read_piece agrees fits sole_that castling_move castle castled resolved read_answer changes_files takes_of ends_here
    standard_end standard_promotion standard_dest is_castling read_standard standard_captures standard_castles step_written step_read bytes_read step_from
    bytes_from game_step game_step_bytes
step_rows = record {
  stepped = refl;
  key = refl;
  walk_first = refl;
  none_left_lem = refl;
  five = refl;
  six = refl;
  four = refl;
  seven = refl;
  unwritten = refl;
}

pub play_rows : PlayRows
unfolding ascii all_at_most same among letter_of kind_of in_range list_in_range count first_of write_answer write_bytes digit_text run_text slash_text
    ranks_text rights_text en_passant_text tail_text fen_text colour_step enemy_pawn two_apart castles corner rook_moved takes_in_passing pawn_removed
    set_down squares_after rights_without rights_after steps_twice stood_before stood_behind file_after after_parts restarts one_more half_after full_after
    place_from square_at promotion_kind piece_kind is_check after piece_or read_takes read_rank read_file read_piece agrees fits sole_that castling_move
    castle castled resolved read_answer changes_files takes_of ends_here standard_end standard_promotion standard_dest is_castling read_standard
    standard_captures standard_castles step_written step_read bytes_read play_answer play_bytes
play_rows = record {
  played = refl;
  written = refl;
  blank = refl;
  two = refl;
  nothing = refl;
  five_first = refl;
  six_next = refl;
  four_then = refl;
  seven_last = refl;
  left_alone = refl;
}

pub variation_rows : VariationRows
unfolding ascii all_at_most same among kind_of in_range list_in_range count first_of colour_step enemy_pawn two_apart castles corner rook_moved
    takes_in_passing pawn_removed set_down squares_after rights_without rights_after steps_twice stood_before stood_behind file_after after_parts restarts
    one_more half_after full_after is_white is_digit is_letter starts_move is_sign in_move in_run onward run_length begins_with is_result number glyph
    brace_comment line_comment token at_end met walk walk_from part place_from square_at promotion_kind piece_kind is_check after piece_or read_takes
    read_rank read_file read_piece agrees fits sole_that castling_move castle castled resolved read_answer changes_files takes_of ends_here standard_end
    standard_promotion standard_dest is_castling read_standard standard_captures standard_castles played_on crossed_from cross cross_met entered plays_from
    moved_on variations_of
variation_rows = record {
  from_before = refl;
  two = refl;
  one = refl;
  nested = refl;
}

pub narrow_rows : NarrowRows
unfolding ascii same kind_of place_from square_at promotion_kind piece_kind is_check after piece_or read_takes read_rank read_file read_piece agrees fits
    castling_move ends_here standard_end standard_promotion standard_dest is_castling read_standard speaks_of only
narrow_rows = record {
  fitting = refl;
  none = refl;
  twice = refl;
  castling = refl;
}
