-- A game's roll at its smallest: a knight of either side goes out, from a position in its 40th move with 7 half-moves made. The roll's bytes, and the
-- positions that it alone gives back, with their counters.
-- Assumes nothing.
use Rattle.std.specs.Prelude.{ℕ, ◌≡◌, List, [], ◌∷◌, ◌++◌, replicate}
use Prim.Native.String.{String}
use Rattle.answer.specs.Ascii.{ascii}
use Rattle.board_builder.specs.declared.BoardBuilder.{BoardBuilder}
use Rattle.fen_text.specs.Full.{read_full}
use Rattle.chess_move.specs.Coordinate.{read_move}
use Rattle.game_rules.specs.Limits.{Limits}
use Rattle.roll_text.specs.Roll.{read_roll}
use Rattle.game_rolls.specs.Rolls.{move_actions, moves_rolled, roll_of_moves, replayed}

-- a record by its FEN, with both counters, and a move by its coordinates
abbrev pub board_said : String → BoardBuilder
board_said fen = (read_full (ascii fen)).board

abbrev pub move_said : String → ℕ
move_said text = (read_move (ascii text)).value

-- g1f3 is 6 + 64 × 21 and b8c6 is 57 + 64 × 42
abbrev pub two_knights : List ℕ
two_knights = move_said "g1f3" ∷ move_said "b8c6" ∷ []

-- three actions, two of them moves
abbrev pub three_at_most : Limits
three_at_most = record { most_actions = 3; most_moves = 2 }

-- the 64 squares, white to move, no rights, no file, the counters, two actions: 1350 is 10 × 128 + 70, 2745 is 21 × 128 + 57
abbrev pub knights_rolled : List ℕ
knights_rolled =
    replicate 6 0
    ++ (2 ∷ replicate 50 0 ++ (8 ∷ replicate 6 0 ++ (0 ∷ 0 ∷ 0 ∷ 0 ∷ 7 ∷ 40 ∷ 2 ∷ 2 ∷ 198 ∷ 10 ∷ 2 ∷ 185 ∷ 21 ∷ [])))

pub record RollsAtSmallest : Type 0 where
  -- "the roll alone gives the same positions back": with the start's counters run on
  pub positions : replayed (read_roll three_at_most knights_rolled)
      ≡ board_said "1n6/8/8/8/8/5N2/8/8 b - - 8 40" ∷ board_said "8/8/2n5/8/8/5N2/8/8 w - - 9 41" ∷ []
  pub roll : roll_of_moves (board_said "1n6/8/8/8/8/8/8/6N1 w - - 7 40") two_knights ≡ knights_rolled
  -- what is no roll has none
  pub refused : replayed (read_roll three_at_most (5 ∷ [])) ≡ []
  -- kind 1, no colour, the move's low byte and its high byte
  pub actions : move_actions two_knights ≡ 1 ∷ 0 ∷ 70 ∷ 5 ∷ 1 ∷ 0 ∷ 185 ∷ 10 ∷ []
  pub moves : moves_rolled 2 (1 ∷ 0 ∷ 70 ∷ 5 ∷ 1 ∷ 0 ∷ 185 ∷ 10 ∷ 1 ∷ 0 ∷ 0 ∷ 0 ∷ []) ≡ 1350 ∷ 2745 ∷ []
