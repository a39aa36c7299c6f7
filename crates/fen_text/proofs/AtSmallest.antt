-- Order 2 at its smallest inputs, each computed.
-- Assumes nothing.
use mathlib.Core.Path.{refl}
use Rattle.answer.specs.Ascii.{ascii}
use Rattle.square.specs.Square.{read_square}
use Rattle.square.specs.Piece.{piece_of}
use Rattle.answer.specs.Numbers.{among}
use Rattle.fen_text.specs.Token.{onto, joined, tokens, place_after, place_where}
use Rattle.fen_text.specs.Placement.{place_byte, place_all}
use Rattle.fen_text.specs.Read.{side_of, rights_of, sided, assembled, of_tokens, read_fen}
use Rattle.fen_text.specs.AtSmallest.{FaultsAtSmallest}

pub faults_at_smallest : FaultsAtSmallest
unfolding ascii read_square piece_of among onto joined tokens place_after place_where place_byte place_all side_of rights_of sided assembled of_tokens read_fen
faults_at_smallest = record {
  nothing_wrong = refl;
  no_text = refl;
  few_before_placement = refl;
  first_of_two = refl;
  second = refl;
  placement_before_side = refl;
  empty_side = refl;
  long_side = refl;
  other_side = refl;
}
