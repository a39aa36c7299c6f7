-- Moves: each row computed.
-- Assumes nothing.
use mathlib.Core.Path.{refl}
use Rattle.answer.specs.Ascii.{ascii}
use Rattle.answer.specs.Numbers.{all_at_most}
use Rattle.square.specs.Piece.{letter_of}
use Rattle.square.specs.Square.{pair_told, read_square}
use Rattle.chess_move.specs.Base.{base_move}
use Rattle.chess_move.specs.Coordinate.{move_text, promotion_named, read_move, with_dest, with_source}
use Rattle.move_list.specs.MoveList.{count, first_of, list_in_range}
use Rattle.number_rows.specs.Moves.{MoveNumbers, MoveTextsRead, MoveTextsNotRead, MoveTextsWritten, BytesInPlace, ReadBack, ListsOfMoves}

pub move_numbers : MoveNumbers
unfolding ascii all_at_most letter_of pair_told read_square base_move move_text promotion_named read_move with_dest with_source count first_of list_in_range
move_numbers = record {
  most = refl;
  source = refl;
  dest = refl;
  promotion = refl;
  promotion_alone = refl;
  number = refl;
  parts = refl;
  of_parts = refl;
  last = refl;
  no_source = refl;
  no_dest = refl;
  no_promotion = refl;
  low = refl;
  high = refl;
  two_bytes = refl;
}

pub move_texts_read : MoveTextsRead
unfolding ascii all_at_most letter_of pair_told read_square base_move move_text promotion_named read_move with_dest with_source count first_of list_in_range
move_texts_read = record {
  e2e4 = record { now = refl; before = refl };
  a1h8 = record { now = refl; before = refl };
  h8a1 = record { now = refl; before = refl };
  queen = record { now = refl; before = refl };
  rook = record { now = refl; before = refl };
  knight = record { now = refl; before = refl };
  bishop = record { now = refl; before = refl };
  longer = record { now = refl; before = refl };
}

pub move_texts_not_read : MoveTextsNotRead
unfolding ascii all_at_most letter_of pair_told read_square base_move move_text promotion_named read_move with_dest with_source count first_of list_in_range
move_texts_not_read = record {
  nothing = record { now = refl; before = refl };
  one_byte = record { now = refl; before = refl };
  two_bytes = record { now = refl; before = refl };
  three_bytes = record { now = refl; before = refl };
  two_bad_bytes = record { now = refl; before = refl };
  before_a = record { now = refl; before = refl };
  after_h = record { now = refl; before = refl };
  before_1 = record { now = refl; before = refl };
  after_8 = record { now = refl; before = refl };
  then_before_a = record { now = refl; before = refl };
  then_after_h = record { now = refl; before = refl };
  then_before_1 = record { now = refl; before = refl };
  then_after_8 = record { now = refl; before = refl };
  first_pair_first = record { now = refl; before = refl };
  a_bad_pair_before_a_missing_one = record { now = refl; before = refl };
  king = record { now = refl; before = refl };
  pawn = record { now = refl; before = refl };
  no_letter = record { now = refl; before = refl };
  a_last_letter = record { now = refl; before = refl };
}

pub move_texts_written : MoveTextsWritten
unfolding ascii all_at_most letter_of pair_told read_square base_move move_text promotion_named read_move with_dest with_source count first_of list_in_range
move_texts_written = record {
  e2e4 = refl;
  e7e8p = refl;
  e7e8n = refl;
  e7e8b = refl;
  e7e8r = refl;
  e7e8q = refl;
  e7e8k = refl;
  last = refl;
  past_it = refl;
}

pub bytes_in_place : BytesInPlace
unfolding ascii all_at_most letter_of pair_told read_square base_move move_text promotion_named read_move with_dest with_source count first_of list_in_range
bytes_in_place = record {
  a = refl;
  one = refl;
  h = refl;
  eight = refl;
  before_a = refl;
  after_h = refl;
  before_1 = refl;
  after_8 = refl;
}

pub read_back : ReadBack
unfolding ascii all_at_most letter_of pair_told read_square base_move move_text promotion_named read_move with_dest with_source count first_of list_in_range
read_back = record {
  none = refl;
  pawn = refl;
  knight = refl;
  queen = refl;
  king = refl;
}

pub lists_of_moves : ListsOfMoves
unfolding ascii all_at_most letter_of pair_told read_square base_move move_text promotion_named read_move with_dest with_source count first_of list_in_range
lists_of_moves = record {
  most = refl;
  over_by_five = refl;
  not_over = refl;
  longest = refl;
  too_long = refl;
  last_move_fact = refl;
  no_move_lem = refl;
  counted = refl;
  none_counted = refl;
  first = refl;
  no_first = refl;
}
