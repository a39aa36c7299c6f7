-- Records: each row computed.
-- Assumes nothing.
use mathlib.Core.Path.{refl}
use Rattle.answer.specs.Numbers.{all_at_most}
use Rattle.board_builder.specs.BoardBuilder.{in_range, numbers, numbers_in_range}
use Rattle.board_builder.specs.Steps.{step}
use Rattle.number_rows.specs.Records.{RecordNumbers, RangesOfRecords, RecordsAsked, StepsOnMen, StepsOnTheRest, RightsInNumbers}

pub record_numbers : RecordNumbers
unfolding all_at_most in_range numbers numbers_in_range step
record_numbers = record {
  counted = refl;
  beginning = refl;
  other_counters = refl;
  without = refl;
  sixty_eight = refl;
  all = refl;
  so_many_squares = refl;
  so_many_numbers = refl;
  largest_count = refl;
  places = (refl, refl, refl, refl);
  of_numbers = refl;
  of_squares_alone = refl;
  empty = refl;
  zeros = refl;
  initial = refl;
}

pub ranges_of_records : RangesOfRecords
unfolding all_at_most in_range numbers numbers_in_range step
ranges_of_records = record {
  least = refl;
  most = refl;
  man_13 = refl;
  side_2 = refl;
  white_4 = refl;
  black_4 = refl;
  file_9 = refl;
  half_10000 = refl;
  full_10000 = refl;
  full_0 = refl;
  squares_63 = refl;
  squares_65 = refl;
  numbers_68 = refl;
  numbers_67 = refl;
  numbers_69 = refl;
  numbers_over = refl;
}

pub records_asked : RecordsAsked
unfolding all_at_most in_range numbers numbers_in_range step
records_asked = record {
  on_b2 = refl;
  on_h8 = refl;
  on_none = refl;
  man_of_none = refl;
  side = refl;
  side_of_none = refl;
  rights_white = refl;
  rights_black = refl;
  rights_colour_2 = refl;
  rights_of_none = refl;
  d3 = refl;
  d6 = refl;
  no_file = refl;
  file_of_none = refl;
}

pub steps_on_men : StepsOnMen
unfolding all_at_most in_range numbers numbers_in_range step
steps_on_men = record {
  pawn_on_c2 = refl;
  king_on_h8 = refl;
  white_pawn = refl;
  square_64 = refl;
  no_man = refl;
  man_13 = refl;
  of_none = refl;
  b2_cleared = refl;
  h8_cleared = refl;
  clear_64 = refl;
}

pub steps_on_the_rest : StepsOnTheRest
unfolding all_at_most in_range numbers numbers_in_range step
steps_on_the_rest = record {
  white = refl;
  black = refl;
  colour_2 = refl;
  not_mended = refl;
  white_rights = refl;
  white_none = refl;
  black_rights = refl;
  rights_4 = refl;
  rights_colour_2 = refl;
  file_h = refl;
  file_none = refl;
  file_9 = refl;
  half_9999 = refl;
  half_10000 = refl;
  full_1 = refl;
  full_9999 = refl;
  full_0 = refl;
  full_10000 = refl;
}

pub rights_in_numbers : RightsInNumbers
unfolding all_at_most in_range numbers numbers_in_range step
rights_in_numbers = record {
  last = refl;
  past_it = refl;
  king_of_both = refl;
  king_of_queen = refl;
  king_of_none = refl;
  queen_of_both = refl;
  queen_of_king = refl;
  queen_of_none = refl;
  rook_a8 = refl;
  rook_h8 = refl;
  rook_a1 = refl;
  rook_b1 = refl;
  rook_g8 = refl;
  rook_64 = refl;
  written = refl;
  rights_4 = refl;
  colour_2 = refl;
}
