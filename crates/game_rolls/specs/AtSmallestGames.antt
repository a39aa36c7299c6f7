-- Games, steps and variations at their smallest, each answer written out: pawns on e2 and e7, in move 40 with 7 half-moves made, and a host that lends the
-- same four moves for every record, e2e4 (1804), e2e3 (1292), e7e5 (2356) and e7e6 (2868).
-- Assumes nothing.
use Rattle.std.specs.Prelude.{ℕ, ◌≡◌, List, [], ◌∷◌, ◌++◌, replicate}
use Prim.Native.String.{String}
use Rattle.answer.specs.Ascii.{ascii}
use Rattle.board_builder.specs.declared.BoardBuilder.{BoardBuilder}
use Rattle.san_text.specs.Standard.{read_standard}
use Rattle.game_text.specs.declared.GameStep.{GameStep}
use Rattle.game_text.specs.Game.{Lends, Game, plays, over, refuses, game, positions_of, played_in, play_on}
use Rattle.game_text.specs.Narrowed.{speaks_of, only}
use Rattle.game_text.specs.Step.{play_answer, play_bytes, game_step, game_step_bytes, stepping, answers_of}
use Rattle.game_text.specs.Variations.{line, whole_game}
use Rattle.game_text.specs.VariationPromises.{played_through}
use Rattle.game_rolls.specs.AtSmallest.{board_said, move_said}

abbrev pub four_lent : Lends
four_lent b = move_said "e2e4" ∷ move_said "e2e3" ∷ move_said "e7e5" ∷ move_said "e7e6" ∷ []

abbrev pub pawns_start : BoardBuilder
pawns_start = board_said "8/4p3/8/8/8/8/4P3/8 w - - 7 40"

-- after e4, e4 e5, e4 e6, e3, e3 e5
abbrev pub pawn_on_e4 : BoardBuilder
pawn_on_e4 = board_said "8/4p3/8/8/4P3/8/8/8 b - - 0 40"

abbrev pub pawns_on_e4_e5 : BoardBuilder
pawns_on_e4_e5 = board_said "8/8/8/4p3/4P3/8/8/8 w - - 0 41"

abbrev pub pawns_on_e4_e6 : BoardBuilder
pawns_on_e4_e6 = board_said "8/8/4p3/8/4P3/8/8/8 w - - 0 41"

abbrev pub pawn_on_e3 : BoardBuilder
pawn_on_e3 = board_said "8/4p3/8/8/8/4P3/8/8 b - - 0 40"

abbrev pub pawns_on_e3_e5 : BoardBuilder
pawns_on_e3_e5 = board_said "8/8/8/4p3/8/4P3/8/8 w - - 0 41"

-- what a move leaves in a room that held nines
abbrev pub key_of_e4_e5 : List ℕ
key_of_e4_e5 = ascii "8/8/8/4p3/4P3/8/8/8 w - - 0 1"

abbrev pub game_of_text : String → Game
game_of_text text = game four_lent pawns_start (ascii text)

abbrev pub step_at : String → ℕ → BoardBuilder → ℕ → GameStep
step_at text offset b room = game_step (ascii text) offset b (four_lent b) room

pub record GamesAtSmallest : Type 0 where
  pub played : game_of_text "1. e4 (e5) e5 *" ≡ plays 3 2 1804 pawn_on_e4 (plays 11 2 2356 pawns_on_e4_e5 (over 0 0))
  pub unfinished : game_of_text "e4 (e5" ≡ plays 0 2 1804 pawn_on_e4 (over 21 3)
  pub refused : game_of_text "e4  d5# e5" ≡ plays 0 2 1804 pawn_on_e4 (refuses 4 4 3)
  -- its positions, and its moves, up to the end or the refusal; and the moves played from the start
  pub positions : positions_of (game_of_text "e4 e5") ≡ pawn_on_e4 ∷ pawns_on_e4_e5 ∷ []
  pub positions_until : positions_of (game_of_text "e4 d5 e5") ≡ pawn_on_e4 ∷ []
  pub moves : played_in (game_of_text "e4 e5") ≡ 1804 ∷ 2356 ∷ []
  pub moves_until : played_in (game_of_text "e4 d5 e5") ≡ 1804 ∷ []
  pub moves_only : play_on pawns_start (1804 ∷ 2356 ∷ []) ≡ pawn_on_e4 ∷ pawns_on_e4_e5 ∷ []

pub record StepsAtSmallest : Type 0 where
  -- "a step is the four calls in turn": the next move outside brackets, the record after it and how long its key is
  pub outside : step_at "e4 (e6) e5" 2 pawn_on_e4 29
      ≡ record { number = 0; offset = 0; found = 1; start = 8; length = 2; played = 2356; key = 29; board = pawns_on_e4_e5 }
  pub outside_key : game_step_bytes (ascii "e4 (e6) e5") 2 pawn_on_e4 (four_lent pawn_on_e4) (replicate 31 9) ≡ key_of_e4_e5 ++ (9 ∷ 9 ∷ [])
  -- none left; what the walk refuses, in a variation too; what the reader refuses; a room that is too short. A refused step hands its record back
  pub none : step_at "e4 (e6) *" 2 pawn_on_e4 29
      ≡ record { number = 0; offset = 0; found = 0; start = 0; length = 0; played = 0; key = 0; board = pawn_on_e4 }
  pub unknown : step_at "e4 (e6 %) e5" 2 pawn_on_e4 29
      ≡ record { number = 23; offset = 7; found = 0; start = 0; length = 0; played = 0; key = 0; board = pawn_on_e4 }
  pub unread : step_at "e4   d5#" 2 pawn_on_e4 29
      ≡ record { number = 4; offset = 5; found = 1; start = 5; length = 3; played = 0; key = 0; board = pawn_on_e4 }
  pub no_room : step_at "e4   e5" 2 pawn_on_e4 28
      ≡ record { number = 7; offset = 5; found = 1; start = 5; length = 2; played = 0; key = 29; board = pawn_on_e4 }
  pub none_left_alone : game_step_bytes (ascii "e4 (e6) *") 2 pawn_on_e4 (four_lent pawn_on_e4) (replicate 31 9) ≡ replicate 31 9
  pub unread_left_alone : game_step_bytes (ascii "e4   d5#") 2 pawn_on_e4 (four_lent pawn_on_e4) (replicate 31 9) ≡ replicate 31 9
  pub no_room_left_alone : game_step_bytes (ascii "e4   e5") 2 pawn_on_e4 (four_lent pawn_on_e4) (replicate 28 9) ≡ replicate 28 9
  -- one move text by itself
  pub one : play_answer (ascii "e5+") pawn_on_e4 (four_lent pawn_on_e4) 31
      ≡ record { number = 0; offset = 0; found = 1; start = 0; length = 3; played = 2356; key = 29; board = pawns_on_e4_e5 }
  pub one_key : play_bytes (ascii "e5+") pawn_on_e4 (four_lent pawn_on_e4) (replicate 31 9) ≡ key_of_e4_e5 ++ (9 ∷ 9 ∷ [])
  pub one_unread : play_answer (ascii "d5+") pawn_on_e4 (four_lent pawn_on_e4) 31
      ≡ record { number = 4; offset = 0; found = 1; start = 0; length = 3; played = 0; key = 0; board = pawn_on_e4 }
  pub one_no_room : play_answer (ascii "e5+") pawn_on_e4 (four_lent pawn_on_e4) 28
      ≡ record { number = 7; offset = 0; found = 1; start = 0; length = 3; played = 0; key = 29; board = pawn_on_e4 }
  pub one_unread_left_alone : play_bytes (ascii "d5+") pawn_on_e4 (four_lent pawn_on_e4) (replicate 31 9) ≡ replicate 31 9

-- steps in a row, and what a game asks them to answer
pub record SteppingAtSmallest : Type 0 where
  pub in_a_row : stepping game_step four_lent (ascii "e4 (e6) e5 %") 29 2 0 pawns_start
      ≡ record { number = 0; offset = 0; found = 1; start = 0; length = 2; played = 1804; key = 29; board = pawn_on_e4 }
      ∷ record { number = 0; offset = 0; found = 1; start = 8; length = 2; played = 2356; key = 29; board = pawns_on_e4_e5 }
      ∷ record { number = 23; offset = 11; found = 0; start = 0; length = 0; played = 0; key = 0; board = pawns_on_e4_e5 } ∷ []
  pub one_step : stepping game_step four_lent (ascii "e4 e5") 29 0 0 pawns_start
      ≡ record { number = 0; offset = 0; found = 1; start = 0; length = 2; played = 1804; key = 29; board = pawn_on_e4 } ∷ []
  pub asked : answers_of pawns_start (plays 3 2 1804 pawn_on_e4 (over 23 6))
      ≡ record { number = 0; offset = 0; found = 1; start = 3; length = 2; played = 1804; key = 29; board = pawn_on_e4 }
      ∷ record { number = 23; offset = 6; found = 0; start = 0; length = 0; played = 0; key = 0; board = pawn_on_e4 } ∷ []
  pub asked_refused : answers_of pawns_start (refuses 4 7 3)
      ≡ record { number = 4; offset = 7; found = 1; start = 7; length = 3; played = 0; key = 0; board = pawns_start } ∷ []

pub record VariationsAtSmallest : Type 0 where
  -- a variation goes from the record before the move that it stands behind, one in it from the record before that variation's last move
  pub whole : whole_game four_lent pawns_start (ascii "e4 e5 (e6) (e5 (e6)) *")
      ≡ plays 0 2 1804 pawn_on_e4 (plays 3 2 2356 pawns_on_e4_e5 (plays 7 2 2868 pawns_on_e4_e6 (plays 12 2 2356 pawns_on_e4_e5
      (plays 16 2 2868 pawns_on_e4_e6 (over 0 0)))))
  pub behind : whole_game four_lent pawns_start (ascii "e4 (e3 e5) e6")
      ≡ plays 0 2 1804 pawn_on_e4 (plays 4 2 1292 pawn_on_e3 (plays 7 2 2356 pawns_on_e3_e5 (plays 11 2 2868 pawns_on_e4_e6 (over 0 0))))
  pub unfinished : whole_game four_lent pawns_start (ascii "e4 (e3") ≡ plays 0 2 1804 pawn_on_e4 (plays 4 2 1292 pawn_on_e3 (over 21 3))
  pub refused : whole_game four_lent pawns_start (ascii "e4 (e3 d5#") ≡ plays 0 2 1804 pawn_on_e4 (plays 4 2 1292 pawn_on_e3 (refuses 4 7 3))
  -- the same by the calls, three moves at most, from the start and from a place in a variation
  pub by_calls : played_through four_lent (ascii "e4 (e3 e5) e6") 3 0 0 (line pawns_start pawns_start ∷ [])
      ≡ plays 0 2 1804 pawn_on_e4 (plays 4 2 1292 pawn_on_e3 (plays 7 2 2356 pawns_on_e3_e5 (over 0 0)))
  pub by_calls_on : played_through four_lent (ascii "e4 (e3 e5) e6 )") 3 6 1 (line pawns_start pawn_on_e3 ∷ line pawns_start pawn_on_e4 ∷ [])
      ≡ plays 7 2 2356 pawns_on_e3_e5 (plays 11 2 2868 pawns_on_e4_e6 (over 23 14))
  pub by_calls_refused : played_through four_lent (ascii "e4 (d3#") 3 2 0 (line pawns_start pawn_on_e4 ∷ []) ≡ refuses 4 4 3

-- which entries a text speaks of; a castling text speaks of one, on the back rank of the side to move
pub record NarrowedAtSmallest : Type 0 where
  pub short : only (speaks_of pawns_start (read_standard (ascii "O-O"))) (move_said "e8g8" ∷ move_said "e1c1" ∷ move_said "e1g1" ∷ []) ≡ move_said "e1g1" ∷ []
  pub long : only (speaks_of pawns_start (read_standard (ascii "O-O-O"))) (move_said "e8c8" ∷ move_said "e1g1" ∷ move_said "e1c1" ∷ []) ≡ move_said "e1c1" ∷ []
  pub black_short : only (speaks_of pawn_on_e4 (read_standard (ascii "O-O"))) (move_said "e1g1" ∷ move_said "e8g8" ∷ []) ≡ move_said "e8g8" ∷ []
  pub black_long : only (speaks_of pawn_on_e4 (read_standard (ascii "O-O-O"))) (move_said "e1c1" ∷ move_said "e8c8" ∷ []) ≡ move_said "e8c8" ∷ []
  pub pawns : only (speaks_of pawns_start (read_standard (ascii "e4"))) (1804 ∷ 1292 ∷ 2356 ∷ 1804 ∷ []) ≡ 1804 ∷ 1804 ∷ []
  pub nothing : only (speaks_of pawns_start (read_standard (ascii "i9"))) (1804 ∷ 1292 ∷ []) ≡ []
