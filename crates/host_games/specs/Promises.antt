-- The positions of a game, for any calls that a host makes.
-- Assumes nothing.
use Rattle.std.specs.Prelude.{ℕ, ◌+◌, ◌≤◌, ◌≡◌, List, [], ◌∷◌, length}
use Rattle.board_builder.specs.declared.BoardBuilder.{BoardBuilder}
use Rattle.board_builder.specs.BoardBuilder.{numbers}
use Rattle.pgn_text.specs.Walk.{part}
use Rattle.game_text.specs.declared.GameStep.{GameStep}
use Rattle.game_text.specs.Game.{Lends, game}
use Rattle.game_text.specs.Step.{step_refused, step_played, answers_of}
use Rattle.menkhodur.proofs.menkhodur_san_read_standard.Reads as read
use Rattle.host_lists.specs.HostCalls.{ReadCall, read_board, read_list, text_to_read, san_read}
use Rattle.host_settled.specs.SettledCalls.{PlayCall, to_play_from, to_play, play_told, WriteCall, to_write, write_told, write_lent, write_left}
use Rattle.host_games.specs.GameCalls.{StepCall, step_text, step_offset, step_board, step_list, step_told, step_lent, step_left, step_key}
use Rattle.host_games.specs.GameCalls.{MoveCall, played_text, played_board, played_list, played_told, played_lent, played_left}
use Rattle.host_games.specs.GameCalls.{NextCall, next_text, next_offset, next_level, next_told}

-- ---- a step is the four calls in turn

abbrev pub SanCall : Type 0
SanCall = ReadCall read.Learnt

-- a text read over a list, the move played, and the record after it written
pub record ReadPlayedWritten (said : List ℕ) (b : BoardBuilder) (list room : List ℕ) (r : SanCall) (p : PlayCall) (w : WriteCall) : Type 0 where
  pub text : text_to_read r ≡ said
  pub record_read : read_board r ≡ b
  pub list_lent : read_list r ≡ list
  pub record_played : to_play_from p ≡ b
  pub move : to_play p ≡ (san_read r).value
  pub record_written : to_write w ≡ (play_told p).board
  pub room_lent : write_lent w ≡ room

-- what the three answer, as one answer with the text's place; the room is as the writer leaves it, or as it was
pub record InTurn (start size : ℕ) (b : BoardBuilder) (room : List ℕ) (r : SanCall) (p : PlayCall) (w : WriteCall) (s : GameStep) (left : List ℕ) : Type 0 where
  pub unread : ((san_read r).number ≡ 0 → ⊥) → (s ≡ step_refused (san_read r).number start size 0 b) × (left ≡ room)
  pub unwritten : (san_read r).number ≡ 0 → ((write_told w).number ≡ 0 → ⊥)
      → (s ≡ step_refused (write_told w).number start size (write_told w).value b) × (left ≡ write_left w)
  pub played : (san_read r).number ≡ 0 → (write_told w).number ≡ 0
      → (s ≡ step_played start size (san_read r).value (write_told w).value (play_told p).board) × (left ≡ write_left w)

abbrev pub PlayIsThreeCalls : Type 0
PlayIsThreeCalls =
    (m : MoveCall) (r : SanCall) (p : PlayCall) (w : WriteCall)
    → ReadPlayedWritten (played_text m) (played_board m) (played_list m) (played_lent m) r p w
    → InTurn 0 (length (played_text m)) (played_board m) (played_lent m) r p w (played_told m) (played_left m)

-- the next move from a place outside brackets, where it stands outside brackets
pub record FoundOutside (s : StepCall) (n : NextCall) : Type 0 where
  pub text : next_text n ≡ step_text s
  pub place : next_offset n ≡ step_offset s
  pub outside : next_level n ≡ 0
  pub found : (next_told n).found ≡ 1
  pub main_line : (next_told n).level ≡ 0

abbrev pub StepIsFourCalls : Type 0
StepIsFourCalls =
    (s : StepCall) (n : NextCall) (r : SanCall) (p : PlayCall) (w : WriteCall) → FoundOutside s n
    → ReadPlayedWritten (part (step_text s) (next_told n).start (next_told n).length) (step_board s) (step_list s) (step_lent s) r p w
    → InTurn (next_told n).start (next_told n).length (step_board s) (step_lent s) r p w (step_told s) (step_left s)

-- ---- stepping until none is left

-- a call over the text from a place and a record, over the list that is lent for the record, with a room that any key fits
pub record StepsFrom (lends : Lends) (text : List ℕ) (offset : ℕ) (b : BoardBuilder) (s : StepCall) : Type 0 where
  pub text_lent : step_text s ≡ text
  pub place : step_offset s ≡ offset
  pub from : step_board s ≡ b
  pub list_lent : step_list s ≡ lends b
  pub room : 85 ≤ length (step_lent s)

abbrev pub Played : GameStep → Type 0
Played s = (s.number ≡ 0) × (s.found ≡ 1)

-- calls in a row, with their answers: each but the first from where the move before it ended and from its record; the last one plays no move
pub data Run (lends : Lends) (text : List ℕ) : ℕ → BoardBuilder → List GameStep → Type 0 where
  ends : {offset : ℕ} {b : BoardBuilder} (s : StepCall) → StepsFrom lends text offset b s → (Played (step_told s) → ⊥)
      → Run lends text offset b (step_told s ∷ [])
  goes_on : {offset : ℕ} {b : BoardBuilder} {told : List GameStep} (s : StepCall) → StepsFrom lends text offset b s → Played (step_told s)
      → Run lends text ((step_told s).start + (step_told s).length) (step_told s).board told → Run lends text offset b (step_told s ∷ told)

-- they are exactly the game: each move of level 0 once, in order, with the record after it, and then the end or the first refusal
abbrev pub RunsAreTheGame : Type 0
RunsAreTheGame =
    (lends : Lends) (text : List ℕ) (b : BoardBuilder) (told : List GameStep) → Run lends text 0 b told → told ≡ answers_of b (game lends b text)

-- ---- one name: two steps that play a move, of any two games, leave one key exactly if the 68 numbers of their records are equal
pub record OneStepKey (s t : StepCall) : Type 0 where
  pub same_numbers : step_key s ≡ step_key t → numbers (step_told s).board ≡ numbers (step_told t).board
  pub same_key : numbers (step_told s).board ≡ numbers (step_told t).board → step_key s ≡ step_key t

abbrev pub StepKeysTell : Type 0
StepKeysTell = (s t : StepCall) → Played (step_told s) → Played (step_told t) → OneStepKey s t

-- any other step writes nothing and hands its record back
abbrev pub OtherStepsLeaveAll : Type 0
OtherStepsLeaveAll = (s : StepCall) → (Played (step_told s) → ⊥) → (step_left s ≡ step_lent s) × ((step_told s).board ≡ step_board s)
