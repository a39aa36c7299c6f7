-- The roll of a game that was read from a text: its start and its moves. It gives the positions back, whatever was lent when the text was read.
-- Assumes nothing.
use Rattle.std.specs.Prelude.{ℕ, zero, suc, ◌≤◌, ◌≡◌, true, List, [], ◌∷◌, ◌++◌, length, drop}
use Rattle.action.specs.Layout.{action_size, fields}
use Rattle.board_builder.specs.declared.BoardBuilder.{BoardBuilder}
use Rattle.board_builder.specs.BoardBuilder.{in_range}
use Rattle.game_rules.specs.Limits.{Limits}
use Rattle.roll_text.specs.Roll.{Rolled, refusal, rolled, start_from, start_board, move_number_at, roll_text, read_roll}
use Rattle.roll_text.specs.Promises.{Countable}
use Rattle.game_text.specs.Game.{Lends, game, positions_of, played_in, play_on}

-- the actions of moves, and the moves of the first n actions
unfoldable pub move_actions : List ℕ → List ℕ
move_actions [] = []
move_actions (m ∷ ms) = fields 1 0 m ++ move_actions ms

unfoldable pub moves_rolled : ℕ → List ℕ → List ℕ
moves_rolled zero bs = []
moves_rolled (suc n) bs = move_number_at bs ∷ moves_rolled n (drop action_size bs)

-- the roll of a start and moves
abbrev pub roll_of_moves : BoardBuilder → List ℕ → List ℕ
roll_of_moves b ms = roll_text (start_from b) (length ms) (move_actions ms)

-- the positions of a roll that was read: its moves played from its start; nothing else is needed
unfoldable pub replayed : Rolled → List BoardBuilder
replayed (refusal k) = []
replayed (rolled st n bs) = play_on (start_board st) (moves_rolled n bs)

abbrev pub RollGivesPositions : Type 0
RollGivesPositions =
    (L : Limits) (lends : Lends) (b : BoardBuilder) (text : List ℕ) → Countable L → in_range b ≡ true
    → length (played_in (game lends b text)) ≤ L.most_actions → length (played_in (game lends b text)) ≤ L.most_moves
    → replayed (read_roll L (roll_of_moves b (played_in (game lends b text)))) ≡ positions_of (game lends b text)
