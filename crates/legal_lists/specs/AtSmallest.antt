-- Whole lists, in rising order, each at its smallest.
-- Assumes nothing.
use Rattle.std.specs.Prelude.{◌≡◌, List, [], ◌∷◌, ◌++◌, ℕ, replicate}
use Rattle.answer.specs.Answer.{bad_list}
use Rattle.board_builder.specs.declared.BoardBuilder.{BoardBuilder}
use Rattle.board_builder.specs.BoardBuilder.{board, initial_board}
use Rattle.move_laws.specs.Legal.{legal_moves, list_check, check_byte}
use Rattle.move_laws.specs.Judge.{judged_as, judged_answer}
use Rattle.move_laws.specs.AtSmallest.{white, black, to}

-- queens on all squares of the edge, which have 288 moves
abbrev pub edge_only : List ℕ
edge_only = 5 ∷ (replicate 6 0 ++ (5 ∷ []))

abbrev pub queens_around : BoardBuilder
queens_around = board (replicate 8 5 ++ (edge_only ++ (edge_only ++ (edge_only ++ (edge_only ++ (edge_only ++ (edge_only ++ replicate 8 5))))))) 0 0 0 0

pub record WholeLists : Type 0 where
  -- a king alone on a1
  pub alone : legal_moves (white (0 ∷ 6 ∷ []) 0 0) ≡ to 0 1 ∷ to 0 8 ∷ to 0 9 ∷ []
  -- its moves in any order are found right
  pub king_right : judged_answer (white (0 ∷ 6 ∷ []) 0 0) 0 (to 0 9 ∷ to 0 1 ∷ to 0 8 ∷ []) ≡ judged_as 0 0 3 0 0
  -- the first move of a game: two knights and eight pawns
  pub first_move : legal_moves initial_board
      ≡ to 1 16 ∷ to 8 16 ∷ to 9 17 ∷ to 1 18 ∷ to 10 18 ∷ to 11 19 ∷ to 12 20 ∷ to 6 21 ∷ to 13 21 ∷ to 14 22 ∷ to 6 23 ∷ to 15 23
      ∷ to 8 24 ∷ to 9 25 ∷ to 10 26 ∷ to 11 27 ∷ to 12 28 ∷ to 13 29 ∷ to 14 30 ∷ to 15 31 ∷ []
  -- a pawn on the last rank does not move at all
  pub pawn_last : legal_moves (white (60 ∷ 1 ∷ []) 0 0) ≡ []
  pub pawn_last_black : legal_moves (black (4 ∷ 7 ∷ []) 0 0) ≡ []
  -- 1.4.1 mate: no legal move, in check; 5.2.1 stalemate: none, and not in check
  pub mate : legal_moves (white (0 ∷ 6 ∷ 9 ∷ 11 ∷ 18 ∷ 12 ∷ []) 0 0) ≡ []
  pub mate_check : check_byte (white (0 ∷ 6 ∷ 9 ∷ 11 ∷ 18 ∷ 12 ∷ []) 0 0) ≡ 1
  pub stalemate : legal_moves (white (0 ∷ 6 ∷ 10 ∷ 11 ∷ 63 ∷ 12 ∷ []) 0 0) ≡ []
  pub stalemate_no_check : check_byte (white (0 ∷ 6 ∷ 10 ∷ 11 ∷ 63 ∷ 12 ∷ []) 0 0) ≡ 0
  -- 6 for more moves than a list may have, of the list and of the judge
  pub many_gives_6 : list_check queens_around ≡ bad_list
  pub many_judged_6 : judged_answer queens_around 0 [] ≡ judged_as bad_list 0 0 0 0
