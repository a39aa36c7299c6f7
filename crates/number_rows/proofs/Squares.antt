-- Squares: each row computed.
-- Assumes nothing.
use mathlib.Core.Path.{refl}
use Rattle.answer.specs.Ascii.{ascii}
use Rattle.square.specs.Piece.{kind_of, letter_of, piece_of}
use Rattle.square.specs.Square.{pair_told, read_square}
use Rattle.decimal.specs.Promises.{value_from}
use Rattle.number_rows.specs.Squares.{of_each}
use Rattle.number_rows.specs.Squares.{SquareNumbers, SquareTexts, Men, DigitsRead}

pub square_numbers : SquareNumbers
unfolding ascii kind_of letter_of piece_of pair_told read_square value_from of_each
square_numbers = record {
  g2 = refl;
  h8 = refl;
  no_rank = refl;
  no_file = refl;
  rank_of_g2 = refl;
  rank_of_h8 = refl;
  rank_of_a2 = refl;
  rank_of_none = refl;
  file_of_g2 = refl;
  file_of_h8 = refl;
  file_of_none = refl;
  white_back_rank = refl;
  black_back_rank = refl;
  no_colour = refl;
}

pub square_texts : SquareTexts
unfolding ascii kind_of letter_of piece_of pair_told read_square value_from of_each
square_texts = record {
  a1 = refl;
  h8_read = refl;
  b7_and_more = refl;
  before_a = refl;
  after_h = refl;
  rank_0 = refl;
  rank_9 = refl;
  nothing = refl;
  one_byte = refl;
  told = refl;
  told_file = refl;
  told_rank = refl;
  told_missing = refl;
  g2_written = refl;
  b7_written = refl;
  last = refl;
  past_it = refl;
}

pub men : Men
unfolding ascii kind_of letter_of piece_of pair_told read_square value_from of_each
men = record {
  codes = refl;
  letters = refl;
  no_letter = refl;
  kinds = refl;
  a_pawn = refl;
  a_king = refl;
  on_b1 = refl;
  on_no_square = refl;
}

pub digits_read : DigitsRead
unfolding ascii kind_of letter_of piece_of pair_told read_square value_from of_each
digits_read = record {
  hundred_twenty_three = refl;
  behind_seven = refl;
}
