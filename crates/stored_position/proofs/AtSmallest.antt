-- The counters among a position's bytes at their smallest, each row computed.
-- Assumes nothing.
use mathlib.Core.Path.{refl}
use Rattle.answer.specs.Numbers.{same, all_at_most}
use Rattle.board_builder.specs.BoardBuilder.{in_range, numbers_in_range}
use Rattle.move_list.specs.MoveList.{list_in_range}
use Rattle.position.specs.Layout.{moves_from, position_of}
use Rattle.stored_position.specs.Bytes.{move_bytes, position_bytes, position_check, is_position}
use Rattle.stored_position.specs.AtSmallest.{BytesAtSmallest}

pub bytes_at_smallest : BytesAtSmallest
unfolding same all_at_most in_range numbers_in_range list_in_range moves_from position_of move_bytes position_bytes position_check is_position
bytes_at_smallest = record {
  low_first = refl;
  read_back = refl;
  long = refl;
  zeros = refl;
  first_move = refl;
  largest = refl;
  clock_gives_5 = refl;
  number_gives_5 = refl;
  no_number_gives_5 = refl;
}
