-- Order 2 at its smallest inputs: each number before the next, the first of two bad bytes, and no offset where nothing is wrong.
-- Assumes nothing.
use Rattle.std.specs.Prelude.{◌≡◌}
use Rattle.answer.specs.Answer.{too_few_tokens, bad_placement, bad_side}
use Rattle.answer.specs.Ascii.{ascii}
use Rattle.board_builder.specs.BoardBuilder.{empty_board}
use Rattle.fen_text.specs.Read.{read_fen, fen_of}
use Rattle.fen_text.specs.Rows.{Refused}

pub record FaultsAtSmallest : Type 0 where
  pub nothing_wrong : read_fen (ascii " w - -") ≡ fen_of empty_board
  pub no_text : Refused "" too_few_tokens 0
  pub few_before_placement : Refused "9 x -" too_few_tokens 5
  pub first_of_two : Refused "9x w - -" bad_placement 0
  pub second : Refused "1x w - -" bad_placement 1
  pub placement_before_side : Refused "x x - -" bad_placement 0
  pub empty_side : Refused "  - -" bad_side 1
  pub long_side : Refused "8 ww - -" bad_side 2
  pub other_side : Refused "K8 x - -" bad_side 3
