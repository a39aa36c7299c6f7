-- Rolls by the host's calls, byte by byte (document 02, orders 1 and 12): what the writer and the readers answer and leave, and what is read off a start.
-- Assumes nothing.
use Rattle.std.specs.Prelude.{ℕ, ◌≡◌, true, false, List, [], ◌∷◌, ◌++◌, replicate, take}
use Rattle.answer.specs.Answer.{accepted}
use Rattle.board_builder.specs.declared.BoardBuilder.{BoardBuilder}
use Rattle.board_builder.specs.BoardBuilder.{board, empty_board, no_board}
use Rattle.roll_text.specs.Roll.{Start, start_fits, within_bounds, stopped, front, halted, acts}
use Rattle.roll_text.specs.Calls.{front_number, acts_number, acts_over, is_acts, fields_at}
use Rattle.roll_text.specs.Promises.{Writer, roll_writer, roll_reader, old_reader, wrote, formed, anew}
use Rattle.game_rules.specs.Limits.{limits}
use Rattle.roll_text.specs.Roll.{read_roll}
use Rattle.roll_reader.specs.Checked.{checked}
use Rattle.roll_text.specs.WholeAtSmallest.{eight, king_on_a1, kings_numbers, every_action, every_text}

-- a start of the empty record with these counters
abbrev pub start_counted : ℕ → ℕ → Start
start_counted half full = record { numbers = replicate 68 0; half = half; full = full }

-- a writer that says how long its room is, and writes nothing
abbrev pub tells_its_room : Writer
tells_its_room = record {
  answer = λ (b : BoardBuilder) (part : List ℕ) (n room : ℕ). accepted room;
  room = λ (b : BoardBuilder) (part : List ℕ) (n : ℕ) (out : List ℕ). out;
}

pub record WrittenByCalls : Type 0 where
  -- 71 bytes of the start and 14 of the actions, in a room of 100
  pub answer : (roll_writer eight).answer king_on_a1 every_action 8 100 ≡ record { number = 0; value = 85 }
  pub room : (roll_writer eight).room king_on_a1 every_action 8 (replicate 100 9) ≡ kings_numbers ++ (every_text ++ replicate 15 9)
  pub short : (roll_writer eight).answer king_on_a1 every_action 8 84 ≡ record { number = 7; value = 85 }
  pub short_room : (roll_writer eight).room king_on_a1 every_action 8 (replicate 84 9) ≡ replicate 84 9
  -- what is written are the first bytes, as many as the answer says
  pub bytes : wrote (roll_writer eight) king_on_a1 every_action 8 (replicate 100 9) ≡ kings_numbers ++ every_text
  pub by_its_room : wrote tells_its_room empty_board (7 ∷ []) 0 (5 ∷ 6 ∷ []) ≡ 5 ∷ 6 ∷ []

pub record ReadByCalls : Type 0 where
  pub answer : (roll_reader eight).answer (kings_numbers ++ every_text) 33 ≡ record { number = 0; actions = 8; board = king_on_a1 }
  pub part : (roll_reader eight).part (kings_numbers ++ every_text) (replicate 33 9) ≡ every_action ++ (9 ∷ [])
  -- a part of 32 bytes is asked for, however long the roll is
  pub short : (roll_reader eight).answer (kings_numbers ++ every_text) 31 ≡ record { number = 16; actions = 0; board = no_board }
  pub short_part : (roll_reader eight).part (kings_numbers ++ every_text) (replicate 31 9) ≡ replicate 31 9
  -- an old roll of the empty record with an offer by black; and the same with 0 and 1 put in
  pub old_answer : (old_reader eight).answer (replicate 68 0 ++ (1 ∷ 5 ∷ [])) 32 ≡ record { number = 0; actions = 1; board = empty_board }
  pub old_part : (old_reader eight).part (replicate 68 0 ++ (1 ∷ 5 ∷ [])) (replicate 32 9) ≡ 2 ∷ 1 ∷ 0 ∷ 0 ∷ replicate 28 9
  pub made_new : anew (replicate 68 2 ++ (3 ∷ 5 ∷ [])) ≡ replicate 68 2 ++ (0 ∷ 1 ∷ 3 ∷ 5 ∷ [])
  -- codes 0 and 1, and what would be a move's number
  pub code_0 : ((roll_reader eight).answer (replicate 68 0 ++ (0 ∷ 1 ∷ 1 ∷ 0 ∷ 0 ∷ [])) 32).number ≡ 17
  pub code_1 : ((roll_reader eight).answer (replicate 68 0 ++ (0 ∷ 1 ∷ 1 ∷ 1 ∷ 0 ∷ [])) 32).number ≡ 17

pub record StartsRead : Type 0 where
  -- "0 to 9,999 and 1 to 9,999", and each number within its bound, as many as there are
  pub largest : start_fits (start_counted 9999 9999) ≡ true
  pub least : start_fits (start_counted 0 1) ≡ true
  pub clock_over : start_fits (start_counted 10000 5) ≡ false
  pub number_over : start_fits (start_counted 5 10000) ≡ false
  pub number_zero : start_fits (start_counted 5 0) ≡ false
  pub no_numbers : start_fits (record { numbers = []; half = 0; full = 1 }) ≡ false
  pub at_bounds : within_bounds (3 ∷ 5 ∷ []) (3 ∷ 5 ∷ []) ≡ true
  pub first_over : within_bounds (3 ∷ 5 ∷ []) (4 ∷ 5 ∷ []) ≡ false
  pub second_over : within_bounds (3 ∷ 5 ∷ []) (3 ∷ 6 ∷ []) ≡ false
  pub too_few : within_bounds (3 ∷ 5 ∷ []) (3 ∷ []) ≡ false
  pub too_many : within_bounds (3 ∷ []) (3 ∷ 5 ∷ []) ≡ false
  -- an old roll says the counters 0 and 1 alone
  pub counted : formed true (start_counted 7 40) ≡ true
  pub old_form : formed false (start_counted 0 1) ≡ true
  pub old_clock : formed false (start_counted 1 1) ≡ false
  pub old_number : formed false (start_counted 0 2) ≡ false
  pub old_zero : formed false (start_counted 0 0) ≡ false

-- each stage's refusal, 0 where it passes; actions over the front of a part; the fields of an action
pub record StagesRead : Type 0 where
  pub front_stopped : front_number (stopped 5) ≡ 5
  pub front_passed : front_number (front (3 ∷ []) (4 ∷ [])) ≡ 0
  pub acts_halted : acts_number (halted 13) ≡ 13
  pub acts_passed : acts_number (acts (3 ∷ [])) ≡ 0
  pub no_acts : is_acts (halted 13) ≡ false
  pub some_acts : is_acts (acts []) ≡ true
  pub over : acts_over (acts (1 ∷ 2 ∷ [])) (7 ∷ 8 ∷ 9 ∷ []) ≡ 1 ∷ 2 ∷ 9 ∷ []
  pub left_alone : acts_over (halted 13) (7 ∷ 8 ∷ 9 ∷ []) ≡ 7 ∷ 8 ∷ 9 ∷ []
  pub fields_of : fields_at (5 ∷ 1 ∷ 12 ∷ 7 ∷ []) ≡ record { kind = 5; colour = 1; number = 1804 }

-- a look at a roll: its number, how many actions it has, and its start's counters; zeros beside a refusal
pub record LooksAtRolls : Type 0 where
  pub looked_at : checked (read_roll limits (replicate 68 0 ++ (7 ∷ 40 ∷ 2 ∷ 4 ∷ 6 ∷ [])))
      ≡ record { number = 0; actions = 2; half_moves = 7; full_moves = 40 }
  pub refused : checked (read_roll limits (replicate 68 0 ++ (7 ∷ 40 ∷ 2 ∷ 4 ∷ []))) ≡ record { number = 17; actions = 0; half_moves = 0; full_moves = 0 }
