-- What each stage of a walk over a roll answers: nothing, or a refusal; and what is known of a roll whose actions are judged.
-- Assumes nothing.
use Rattle.std.specs.Prelude.{ℕ, ◌≤◌, ◌≡◌, Bool, true, List, length, take, Result, Ok, Err}
use Rattle.board_builder.specs.BoardBuilder.{record_size}
use Rattle.game_rules.specs.Limits.{limits}
use Rattle.roll_text.specs.Roll.{Start, Front, stopped, front, Acts, halted, acts, read_actions, with_actions, read_by}
use Rattle.roll_text.specs.Calls.{is_acts}

unfoldable pub front_check : Front → Result (Unit {0}) ℕ
front_check (stopped k) = Err k
front_check (front numbers s) = Ok tt

unfoldable pub acts_check : Acts → Result (Unit {0}) ℕ
acts_check (halted k) = Err k
acts_check (acts bs) = Ok tt

-- what a stage answers as a number: 0, or its refusal
abbrev pub stage_number : Result (Unit {0}) ℕ → ℕ
stage_number (Ok u) = 0
stage_number (Err k) = k

-- the start with its counters
abbrev pub start_with : List ℕ → ℕ → ℕ → Start
start_with s half full = record { numbers = take record_size s; half = half; full = full }

-- nothing is wrong with the text of a roll's n actions, nor with what stands in front of it
pub record Accepted (counted : Bool) (s : List ℕ) (half full n : ℕ) (text : List ℕ) : Type 0 where
  pub long : record_size ≤ length s
  pub few : n ≤ limits.most_actions
  pub reads : read_by counted limits s ≡ with_actions (start_with s half full) n (read_actions n limits.most_moves text)
  pub actions : is_acts (read_actions n limits.most_moves text) ≡ true
