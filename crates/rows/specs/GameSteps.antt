-- Games step by step, each answer written out in numbers: a white pawn on e2 and a black one on e7, of which e2e4 is 12 + 64 × 28 = 1,804, e2e3 is 1,292 and
-- e7e5 is 2,356. A key of these positions has 29 bytes.
-- Assumes nothing.
use Rattle.std.specs.Prelude.{ℕ, ◌≡◌, [], ◌∷◌, ◌++◌, replicate}
use Rattle.answer.specs.Ascii.{ascii}
use Rattle.board_builder.specs.declared.BoardBuilder.{BoardBuilder}
use Rattle.board_builder.specs.BoardBuilder.{empty_board}
use Rattle.san_text.specs.Standard.{read_standard}
use Rattle.game_text.specs.declared.GameStep.{GameStep}
use Rattle.game_text.specs.Game.{plays, over, refuses, game, game_positions, played_in, positions_of, play_on}
use Rattle.game_text.specs.Narrowed.{speaks_of, only}
use Rattle.game_text.specs.Step.{play_answer, game_step, game_step_bytes, stepping, answers_of}
use Rattle.game_text.specs.Variations.{line, entered, plays_from, moved_on, lent_more, slow, slow_answered, whole_game}
use Rattle.game_text.specs.VariationPromises.{played_through}
use Rattle.game_text.specs.AtSmallest.{two_pawns, after_one, after_two, lent}
use Rattle.rows.specs.SanRows.{board_in}

abbrev pub step_is : ℕ → ℕ → ℕ → ℕ → ℕ → ℕ → ℕ → BoardBuilder → GameStep
step_is number offset found start size played key b =
    record { number = number; offset = offset; found = found; start = start; length = size; played = played; key = key; board = b }

pub record StepsInNumbers : Type 0 where
  pub played : game_step (ascii "e4 (e4) e5") 2 after_one (lent after_one) 29 ≡ step_is 0 0 1 8 2 2356 29 after_two
  pub too_short_fact : game_step (ascii "1. e4") 0 two_pawns (lent two_pawns) 28 ≡ step_is 7 3 1 3 2 0 29 two_pawns
  pub not_listed_fact : game_step (ascii "1. e3") 0 two_pawns (lent two_pawns) 29 ≡ step_is 4 3 1 3 2 0 0 two_pawns
  pub unknown_byte : game_step (ascii "e4 %") 2 two_pawns (lent two_pawns) 29 ≡ step_is 23 3 0 0 0 0 0 two_pawns
  pub none_left_lem : game_step (ascii "e4 *") 2 two_pawns (lent two_pawns) 29 ≡ step_is 0 0 0 0 0 0 0 two_pawns
  pub by_itself : play_answer (ascii "e5") after_one (lent after_one) 29 ≡ step_is 0 0 1 0 2 2356 29 after_two
  pub none_written : game_step_bytes (ascii "e4 *") 2 two_pawns (lent two_pawns) (replicate 30 9) ≡ replicate 30 9
  pub from_byte_0 : game_step_bytes (ascii "e4") 0 two_pawns (lent two_pawns) (replicate 30 9) ≡ ascii "8/4p3/8/8/4P3/8/8/8 b - - 0 1" ++ (9 ∷ [])
  -- a key of another length than that of the record before: e4d5, 28 + 64 × 35 = 2,268, takes a pawn
  pub taking : play_answer (ascii "exd5") (board_in "8/8/8/3p4/4P3/8/8/8 w - -") (2268 ∷ []) 29
      ≡ step_is 0 0 1 0 4 2268 27 (board_in "8/8/8/3P4/8/8/8/8 b - -")
  pub asked_taking : answers_of (board_in "8/8/8/3p4/4P3/8/8/8 w - -") (plays 0 4 2268 (board_in "8/8/8/3P4/8/8/8/8 b - -") (over 0 0))
      ≡ step_is 0 0 1 0 4 2268 27 (board_in "8/8/8/3P4/8/8/8/8 b - -") ∷ step_is 0 0 0 0 0 0 0 (board_in "8/8/8/3P4/8/8/8/8 b - -") ∷ []
  -- a step after the other, each from the record that the one before hands back
  pub one_step : stepping game_step lent (ascii "1. e4 e5") 29 0 0 two_pawns ≡ step_is 0 0 1 3 2 1804 29 after_one ∷ []
  pub three_steps : stepping game_step lent (ascii "1. e4 e5") 29 2 0 two_pawns
      ≡ step_is 0 0 1 3 2 1804 29 after_one ∷ step_is 0 0 1 6 2 2356 29 after_two ∷ step_is 0 0 0 0 0 0 0 after_two ∷ []
  -- what a game asks for
  pub asked : answers_of two_pawns (plays 3 2 1804 after_one (over 0 0)) ≡ step_is 0 0 1 3 2 1804 29 after_one ∷ step_is 0 0 0 0 0 0 0 after_one ∷ []
  pub asked_unknown : answers_of two_pawns (over 23 3) ≡ step_is 23 3 0 0 0 0 0 two_pawns ∷ []
  pub asked_refused : answers_of two_pawns (refuses 4 3 2) ≡ step_is 4 3 1 3 2 0 0 two_pawns ∷ []

pub record GamesInNumbers : Type 0 where
  pub moves : played_in (game lent two_pawns (ascii "e4 e5")) ≡ 1804 ∷ 2356 ∷ []
  pub moves_refused : played_in (game lent two_pawns (ascii "e4 d5")) ≡ 1804 ∷ []
  pub positions_refused : positions_of (game lent two_pawns (ascii "e4 d5")) ≡ after_one ∷ []
  pub with_the_start : game_positions lent two_pawns (ascii "e4 e5") ≡ two_pawns ∷ after_one ∷ after_two ∷ []
  pub played_on : play_on two_pawns (1804 ∷ 2356 ∷ []) ≡ after_one ∷ after_two ∷ []
  -- `O-O-O` speaks of e1c1, 132, and with black to move of e8c8, 3,772; `O-O` of e1g1, 388, and e8g8, 4,028
  pub long : only (speaks_of two_pawns (read_standard (ascii "O-O-O"))) (132 ∷ 388 ∷ 3772 ∷ 4028 ∷ []) ≡ 132 ∷ []
  pub black_long : only (speaks_of after_one (read_standard (ascii "O-O-O"))) (132 ∷ 388 ∷ 3772 ∷ 4028 ∷ []) ≡ 3772 ∷ []
  pub short : only (speaks_of two_pawns (read_standard (ascii "O-O"))) (132 ∷ 388 ∷ 3772 ∷ 4028 ∷ []) ≡ 388 ∷ []
  pub black_short : only (speaks_of after_one (read_standard (ascii "O-O"))) (132 ∷ 388 ∷ 3772 ∷ 4028 ∷ []) ≡ 4028 ∷ []
  pub no_text : only (speaks_of two_pawns (read_standard (ascii "?"))) (132 ∷ 1804 ∷ []) ≡ []

pub record VariationsInNumbers : Type 0 where
  -- a bracket goes back to the record before the last move; two go back no further
  pub one_bracket : entered 1 (line two_pawns after_one ∷ []) ≡ line two_pawns two_pawns ∷ line two_pawns after_one ∷ []
  pub two_brackets : entered 2 (line after_one after_two ∷ [])
      ≡ line after_one after_one ∷ line after_one after_one ∷ line after_one after_two ∷ []
  pub no_line : entered 1 [] ≡ []
  pub from_now : plays_from (line two_pawns after_one ∷ []) ≡ after_one
  pub from_nowhere : plays_from [] ≡ empty_board
  pub moved : moved_on after_two (line two_pawns after_one ∷ []) ≡ line after_one after_two ∷ []
  pub moved_nowhere : moved_on after_two [] ≡ []
  -- a bracket on byte 0 counts
  pub first_bracket : whole_game lent_more two_pawns (ascii "(e4) e3") ≡ plays 1 2 1804 after_one (plays 5 2 1292 slow (over 0 0))
  -- by calls from place to place: as many moves as are asked for
  pub through : played_through lent_more (ascii "1. e4 (e3 e5) e5") 9 0 0 (line two_pawns two_pawns ∷ [])
      ≡ plays 3 2 1804 after_one (plays 7 2 1292 slow (plays 10 2 2356 slow_answered (plays 14 2 2356 after_two (over 0 0))))
  pub through_two : played_through lent_more (ascii "1. e4 (e3 e5) e5") 2 0 0 (line two_pawns two_pawns ∷ [])
      ≡ plays 3 2 1804 after_one (plays 7 2 1292 slow (over 0 0))
  pub through_refused : played_through lent_more (ascii "1. e4 d5") 9 0 0 (line two_pawns two_pawns ∷ []) ≡ plays 3 2 1804 after_one (refuses 4 6 2)
  pub through_unknown : played_through lent_more (ascii "e4 %") 9 0 0 (line two_pawns two_pawns ∷ []) ≡ plays 0 2 1804 after_one (over 23 3)
