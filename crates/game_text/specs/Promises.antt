-- What is promised about the positions of a game, each as a statement that can be read by itself.
-- Assumes nothing.
use Rattle.std.specs.Prelude.{ℕ, ◌≤◌, ◌≡◌, true, List, length, take, drop}
use Rattle.board_builder.specs.declared.BoardBuilder.{BoardBuilder}
use Rattle.board_builder.specs.BoardBuilder.{in_range}
use Rattle.fen_text.specs.Write.{fen_text}
use Rattle.fen_text.specs.Promises.{SameNumbers}
use Rattle.game_text.specs.declared.GameStep.{GameStep}
use Rattle.game_text.specs.Game.{Lends, Game, plays, game, positions_of, played_in, play_on}
use Rattle.game_text.specs.Step.{Step, game_step, game_step_bytes, stepping, answers_of}

-- stepping from the start, with a room that any key fits, gives exactly the game: a step for each move of the text, in order, with the record after it, and
-- then its end or its refusal
abbrev pub SteppingGivesTheGame : Step → Type 0
SteppingGivesTheGame step =
    (lends : Lends) (b : BoardBuilder) (text : List ℕ) (room : ℕ) → 85 ≤ room
    → stepping step lends text room (length (positions_of (game lends b text))) 0 b ≡ answers_of b (game lends b text)

-- it is not kept by a step that finds no move, nor by one that hands its record back, whatever else they answer
abbrev pub FindingNoMoveFails : Type 0
FindingNoMoveFails =
    (step : Step) → ((text : List ℕ) (offset : ℕ) (b : BoardBuilder) (moves : List ℕ) (room : ℕ) → (step text offset b moves room).found ≡ 0)
    → SteppingGivesTheGame step → ⊥

abbrev pub StayingFails : Type 0
StayingFails =
    (step : Step) → ((text : List ℕ) (offset : ℕ) (b : BoardBuilder) (moves : List ℕ) (room : ℕ) → (step text offset b moves room).board ≡ b)
    → SteppingGivesTheGame step → ⊥

-- an accepted step with a move has its record's key at the front of the room, as long as it says, and nothing behind it is changed; any other step
-- writes nothing
pub record KeyLeft (s : GameStep) (out exit : List ℕ) : Type 0 where
  pub key : s.number ≡ 0 → s.found ≡ 1 → take s.key exit ≡ fen_text s.board
  pub behind : drop s.key exit ≡ drop s.key out
  pub none : s.found ≡ 0 → exit ≡ out
  pub refused : (s.number ≡ 0 → ⊥) → exit ≡ out

abbrev pub StepsLeaveKeys : Type 0
StepsLeaveKeys =
    (text : List ℕ) (offset : ℕ) (b : BoardBuilder) (moves out : List ℕ)
    → KeyLeft (game_step text offset b moves (length out)) out (game_step_bytes text offset b moves out)

-- a position of a game
pub data PositionIn : BoardBuilder → Game → Type 0 where
  here : {start size m : ℕ} {c : BoardBuilder} {g : Game} → PositionIn c (plays start size m c g)
  later : {start size m : ℕ} {c p : BoardBuilder} {g : Game} → PositionIn p g → PositionIn p (plays start size m c g)

-- each is in range, whatever the start and the lists were
abbrev pub PositionsInRange : Type 0
PositionsInRange = (lends : Lends) (b : BoardBuilder) (text : List ℕ) (p : BoardBuilder) → PositionIn p (game lends b text) → in_range p ≡ true

-- one name: two positions of any two games, over any lists, have one key exactly if their 68 numbers are equal
abbrev pub PositionsHaveOneName : Type 0
PositionsHaveOneName =
    (lends others : Lends) (b c : BoardBuilder) (text other : List ℕ) (p q : BoardBuilder)
    → PositionIn p (game lends b text) → PositionIn q (game others c other) → SameNumbers p q

-- the moves alone give the positions back, whatever was lent
abbrev pub MovesGivePositions : Type 0
MovesGivePositions = (lends : Lends) (b : BoardBuilder) (text : List ℕ) → positions_of (game lends b text) ≡ play_on b (played_in (game lends b text))
