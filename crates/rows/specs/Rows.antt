-- Document 01, "Positions and texts to try": the sixteen rows, in its order, over the definitions that the public contracts cite. Where it has 1, order 2
-- of document 02 says which part is wrong; from its orders 2 and 3 come the offsets.
-- Assumes nothing.
use Rattle.std.specs.Prelude.{[], ◌∷◌}
use Rattle.answer.specs.Answer.{invalid_square, invalid_uci_move, too_few_tokens, bad_placement}
use Rattle.chess_move.specs.AtSmallest.{Moves, ReadsNoMove}
use Rattle.fen_text.specs.Rows.{Writes, Refused}
use Rattle.san_text.specs.Slips.{Reads, Refuses, Named, knight, knights, rook, only_pawn}

pub record SixteenRows : Type 0 where
  pub row1 : Writes " w - -" "8/8/8/8/8/8/8/8 w - - 0 1"
  pub row2 : Refused "8/8 w -" too_few_tokens 7
  pub row3 : Refused "8/8/8/8/8/8/8/9 w - -" bad_placement 14
  pub row4 : Writes "8/8/8/8/8/8/8/8 w - e4" "8/8/8/8/8/8/8/8 w - e6 0 1"
  pub row5 : Writes "8/8/8/8/8/8/8/8 b - z9" "8/8/8/8/8/8/8/8 b - - 0 1"
  pub row6 : (Moves "e2e4q" 22284) × (Moves "e2e4qx" 1804)
  pub row7 : (ReadsNoMove "e2e4k" invalid_uci_move 4) × (ReadsNoMove "e2e" invalid_uci_move 3)
  pub row8 : ReadsNoMove "z9e4" invalid_square 0
  -- knight b1, list 1153
  pub row9 : Reads knight (1153 ∷ []) "Nc3+?!" 1153
  pub row10 : Refuses knight (1153 ∷ []) "Nc3x"
  -- knights b1, e2, list 1153, 1164
  pub row11 : (Refuses knights (1153 ∷ 1164 ∷ []) "Nc3") × (Reads knights (1153 ∷ 1164 ∷ []) "Nbc3" 1153)
  pub row12 : Named knights (1153 ∷ 1164 ∷ []) 1153 "Nbc3"
  -- white rook e1, list 388; the same list twice
  pub row13 : (Reads rook (388 ∷ []) "O-O" 388) × (Refuses rook (388 ∷ []) "O-O+")
  pub row14 : Named rook (388 ∷ 388 ∷ []) 388 "O-O"
  -- pawn e5, list 2788
  pub row15 : (Refuses only_pawn (2788 ∷ []) "exd6") × (Reads only_pawn (2788 ∷ []) "d6" 2788)
  pub row16 : Named only_pawn (2788 ∷ []) 2788 "exd6 e.p."
