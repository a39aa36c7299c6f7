-- Order 12's reader and writers at their smallest texts, each computed.
-- Assumes nothing.
use mathlib.Core.Path.{refl}
use Rattle.answer.specs.Ascii.{ascii}
use Rattle.answer.specs.Numbers.{among, all_at_most}
use Rattle.square.specs.Square.{read_square}
use Rattle.square.specs.Piece.{piece_of, letter_of}
use Rattle.decimal.specs.Decimal.{digits, decimal}
use Rattle.castle_rights.specs.CastleRights.{letters_of, letters_text}
use Rattle.board_builder.specs.BoardBuilder.{in_range}
use Rattle.fen_text.specs.Token.{onto, joined, tokens, place_after, place_where}
use Rattle.fen_text.specs.Placement.{place_byte, place_all}
use Rattle.fen_text.specs.Read.{side_of, rights_of, sided, assembled, of_tokens, read_fen}
use Rattle.fen_text.specs.Write.{digit_text, run_text, slash_text, ranks_text, rights_text, en_passant_text, tail_text, full_tail, fen_text, full_text}
use Rattle.fen_text.specs.Full.{digits_from, counter_of, numbered, clocked, start_behind, counters_read, read_full}
use Rattle.fen_text.specs.FullAtSmallest.{FullAtSmallest, CrateAtSmallest}

pub full_at_smallest : FullAtSmallest
unfolding ascii among read_square piece_of letter_of digits decimal letters_of letters_text onto joined tokens place_after place_where place_byte place_all
    side_of rights_of sided assembled of_tokens read_fen digit_text run_text slash_text ranks_text rights_text en_passant_text full_tail full_text
    digits_from counter_of numbered clocked start_behind counters_read read_full
full_at_smallest = record {
  few_before_counter = refl;
  placement_before_counter = refl;
  side_before_counter = refl;
  no_fifth = refl;
  bad_fifth = refl;
  both_bad = refl;
  empty_fifth = refl;
  space_behind_fourth = refl;
  no_sixth = refl;
  space_behind_fifth = refl;
  bad_sixth = refl;
  long_fifth = refl;
  signed_fifth = refl;
  minus_fifth = refl;
  before_0 = refl;
  behind_9 = refl;
  return_behind = refl;
  long_sixth = refl;
  long_1 = refl;
  move_0 = refl;
  move_0000 = refl;
  least = refl;
  zeros = refl;
  four_digits = refl;
  largest = refl;
  more_tokens = refl;
  written = refl;
  written_largest = refl;
}

pub crate_at_smallest : CrateAtSmallest
unfolding ascii among all_at_most read_square piece_of letter_of letters_of letters_text in_range onto joined tokens place_after place_where place_byte
    place_all side_of rights_of sided assembled of_tokens read_fen digit_text run_text slash_text ranks_text rights_text en_passant_text tail_text fen_text
crate_at_smallest = record {
  sets_0_and_1 = refl;
  never_25 = refl;
  ends_0_1 = refl;
  clock_gives_5 = refl;
  number_gives_5 = refl;
  zeros_give_5 = refl;
  largest_is_good = refl;
}
