-- The SAN rows, each computed.
-- Assumes nothing.
use mathlib.Core.Path.{refl}
use Rattle.answer.specs.Answer.{write_answer, write_bytes}
use Rattle.answer.specs.Ascii.{ascii}
use Rattle.answer.specs.Numbers.{all_at_most, among, same}
use Rattle.square.specs.Piece.{kind_of, piece_of}
use Rattle.square.specs.Square.{pair_told, read_square}
use Rattle.board_builder.specs.BoardBuilder.{in_range}
use Rattle.fen_text.specs.Placement.{place_all, place_byte}
use Rattle.fen_text.specs.Read.{assembled, of_tokens, read_fen, rights_of, side_of, sided}
use Rattle.fen_text.specs.Token.{joined, onto, place_after, place_where, tokens}
use Rattle.chess_move.specs.Coordinate.{promotion_named, read_move, with_dest, with_source}
use Rattle.move_list.specs.MoveList.{count, first_of, list_in_range}
use Rattle.san_text.specs.Form.{castled, read_answer, resolved}
use Rattle.san_text.specs.Name.{candidates, castling_name, changes_files, first_name, head_of, king_first, name_check, name_of, name_text, names, optional}
use Rattle.san_text.specs.Name.{piece_letter}
use Rattle.san_text.specs.Name.{promotion_letter, takes_of}
use Rattle.san_text.specs.Paper.{end_of, mark_of, san_text}
use Rattle.san_text.specs.Place.{place_from, square_at}
use Rattle.san_text.specs.Resolve.{agrees, capture_test, castle, castling_move, fits, sole_that}
use Rattle.san_text.specs.Standard.{ends_here, is_castling, read_standard, standard_captures, standard_castles, standard_dest, standard_end, standard_promotion}
use Rattle.san_text.specs.Standard.{standard_tail, standard_text, with_equals}
use Rattle.san_text.specs.Text.{after, is_check, piece_kind, piece_or, promotion_kind, read_dest, read_end, read_file, read_piece, read_promotion, read_rank}
use Rattle.san_text.specs.Text.{read_takes}
use Rattle.san_text.specs.Text.{read_text}
use Rattle.rows.specs.SanRows.{list_in}
use Rattle.rows.specs.SanRows.{InDocument01, InTheStandard, FormsByFlag}

pub in_document01 : InDocument01
unfolding write_answer write_bytes ascii all_at_most among same kind_of piece_of pair_told read_square in_range place_all place_byte assembled of_tokens
    read_fen rights_of side_of sided joined onto place_after place_where tokens promotion_named read_move with_dest with_source count first_of list_in_range
    castled read_answer resolved candidates castling_name changes_files first_name head_of king_first name_check name_of name_text names optional piece_letter
    promotion_letter takes_of end_of mark_of san_text place_from square_at agrees capture_test castle castling_move fits sole_that ends_here is_castling
    read_standard standard_captures standard_castles standard_dest standard_end standard_promotion standard_tail standard_text with_equals after is_check
    piece_kind piece_or promotion_kind read_dest read_end read_file read_piece read_promotion read_rank read_takes read_text list_in
in_document01 = record {
  long = record { answer = refl; text = refl; back = refl };
  black_short = record { answer = refl; text = refl; back = refl };
  black_long = record { answer = refl; text = refl; back = refl };
  not_listed_fact = refl;
  by_knight = record { answer = refl; text = refl; back = refl };
  by_bishop = record { answer = refl; text = refl; back = refl };
  by_rook = record { answer = refl; text = refl; back = refl };
  by_queen = record { answer = refl; text = refl; back = refl };
  by_king = record { answer = refl; text = refl; back = refl };
  by_pawn = record { answer = refl; text = refl; back = refl };
  other_kind = refl;
  to_knight = record { answer = refl; text = refl; back = refl };
  to_bishop = record { answer = refl; text = refl; back = refl };
  to_rook = record { answer = refl; text = refl; back = refl };
  to_queen = record { answer = refl; text = refl; back = refl };
  to_nothing = refl;
  by_file = record { answer = refl; text = refl; back = refl };
  by_rank = record { answer = refl; text = refl; back = refl };
  by_both = record { answer = refl; text = refl; back = refl };
  pawn_by_both = record { answer = refl; text = refl; back = refl };
  no_mark = record { answer = refl; text = refl; back = refl };
  mark_last = record { answer = refl; text = refl; back = refl };
  no_file = refl;
  no_rank = refl;
  rank_alone = refl;
  file_alone = refl;
  file_only = refl;
  room_behind = refl;
  lists_room_behind = refl;
  room_short = refl;
  room_left = refl;
  by_lower_file = record { answer = refl; text = refl; back = refl };
  lower_square = record { answer = refl; text = refl; back = refl };
  lower_kind = refl;
  to_the_right = record { answer = refl; text = refl; back = refl };
  king_on_a1 = record { answer = refl; text = refl; back = refl };
  from_nothing = refl;
  no_check_sign = refl;
  no_takes = refl;
}

pub in_the_standard : InTheStandard
unfolding write_answer write_bytes ascii all_at_most among same kind_of piece_of pair_told read_square in_range place_all place_byte assembled of_tokens
    read_fen rights_of side_of sided joined onto place_after place_where tokens promotion_named read_move with_dest with_source count first_of list_in_range
    castled read_answer resolved candidates castling_name changes_files first_name head_of king_first name_check name_of name_text names optional piece_letter
    promotion_letter takes_of end_of mark_of san_text place_from square_at agrees capture_test castle castling_move fits sole_that ends_here is_castling
    read_standard standard_captures standard_castles standard_dest standard_end standard_promotion standard_tail standard_text with_equals after is_check
    piece_kind piece_or promotion_kind read_dest read_end read_file read_piece read_promotion read_rank read_takes read_text list_in
in_the_standard = record {
  long = record { answer = refl; text = refl; back = refl };
  black_short = record { answer = refl; text = refl; back = refl };
  black_long = record { answer = refl; text = refl; back = refl };
  long_check = refl;
  long_mate = refl;
  short_mate = refl;
  no_other_mark = refl;
  not_listed_fact = refl;
  to_bishop = record { answer = refl; text = refl; back = refl };
  promoted_taking = record { answer = refl; text = refl; back = refl };
  promoted_mate = refl;
  promoted_twice = refl;
  no_piece_behind = refl;
  knight_takes = record { answer = refl; text = refl; back = refl };
  takes_without = refl;
  pawn_takes_without = refl;
  straight_takes = refl;
  rank_takes = refl;
  comment_behind = refl;
  piece_only = refl;
  file_only = refl;
  room_behind = refl;
  room_short = refl;
  room_left = refl;
  to_the_right = record { answer = refl; text = refl; back = refl };
  by_rank = record { answer = refl; text = refl; back = refl };
  no_check_sign = refl;
  no_equals_sign = refl;
}

pub forms_by_flag : FormsByFlag
unfolding write_answer write_bytes ascii all_at_most among same kind_of piece_of pair_told read_square in_range place_all place_byte assembled of_tokens
    read_fen rights_of side_of sided joined onto place_after place_where tokens promotion_named read_move with_dest with_source count first_of list_in_range
    castled read_answer resolved candidates castling_name changes_files first_name head_of king_first name_check name_of name_text names optional piece_letter
    promotion_letter takes_of end_of mark_of san_text place_from square_at agrees capture_test castle castling_move fits sole_that ends_here is_castling
    read_standard standard_captures standard_castles standard_dest standard_end standard_promotion standard_tail standard_text with_equals after is_check
    piece_kind piece_or promotion_kind read_dest read_end read_file read_piece read_promotion read_rank read_takes read_text list_in
forms_by_flag = record {
  standard_read = refl;
  paper_read = refl;
  standard_castling = refl;
  standard_none = refl;
  paper_castling = refl;
  paper_none = refl;
  standard_on = refl;
  paper_on = refl;
}
