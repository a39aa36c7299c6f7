-- Two limits at their smallest: one action and no move, and two actions and one move. Rolls and calls within the smaller, at it, and past it by one.
-- Assumes nothing.
use Rattle.std.specs.Prelude.{◌≡◌, Bool, true, false, List, [], ◌∷◌, ◌++◌, ℕ, length, replicate}
use Rattle.answer.specs.Answer.{not_good, not_listed, log_full, part_too_short, bad_roll}
use Rattle.board_builder.specs.BoardBuilder.{record_size, empty_board}
use Rattle.position.specs.Layout.{position_size}
use Rattle.game_rules.specs.Limits.{Limits, limits, actions_length, positions_length}
use Rattle.game_rules.specs.Rules.{Call, make_move, offer_draw}
use Rattle.game_rules.specs.Calls.{call_answer, result_answer}
use Rattle.game_rules.specs.CallOrder.{on_empty, start_bytes}
use Rattle.roll_text.specs.Promises.{roll_reader, old_reader, roll_writer}
use Rattle.longer.specs.TwoLimits.{old_limits, within, room_after}
use Rattle.longer.specs.Promises.{within_of}

abbrev pub few : Limits
few = record { most_actions = 1; most_moves = 0 }

abbrev pub more : Limits
more = record { most_actions = 2; most_moves = 1 }

-- parts of the larger size
abbrev pub actions_of_more : List ℕ
actions_of_more = replicate 8 0

abbrev pub positions_of_more : List ℕ
positions_of_more = start_bytes ++ replicate position_size 0

-- the answer to a roll of the empty record, given its count and actions; and to one without counters
abbrev pub reading : Limits → List ℕ → ℕ
reading L s = ((roll_reader L).answer (replicate record_size 0 ++ (0 ∷ 1 ∷ s)) (length actions_of_more)).number

abbrev pub reading_old : Limits → List ℕ → ℕ
reading_old L s = ((old_reader L).answer (replicate record_size 0 ++ s) (length actions_of_more)).number

pub record RollsAtSmallest : Type 0 where
  -- one offer
  pub at_it : reading few (1 ∷ 4 ∷ []) ≡ 0
  pub at_it_too : reading more (1 ∷ 4 ∷ []) ≡ 0
  -- one more action, one more move: 13, but under the larger limits a roll
  pub one_action_more : reading few (2 ∷ 4 ∷ 4 ∷ []) ≡ log_full
  pub accepted_action : reading more (2 ∷ 4 ∷ 4 ∷ []) ≡ 0
  pub one_move_more : reading few (1 ∷ 2 ∷ 0 ∷ []) ≡ log_full
  pub accepted_move : reading more (1 ∷ 2 ∷ 0 ∷ []) ≡ 0
  -- and past the larger
  pub two_moves : reading more (2 ∷ 2 ∷ 0 ∷ 2 ∷ 0 ∷ []) ≡ log_full
  pub three_actions : reading more (3 ∷ 4 ∷ 4 ∷ 4 ∷ []) ≡ log_full
  -- a refusal other than 13 is the same; what is 13 under the smaller may be refused for another reason under the larger
  pub no_code : reading few (1 ∷ 7 ∷ []) ≡ bad_roll
  pub no_code_too : reading more (1 ∷ 7 ∷ []) ≡ bad_roll
  pub hidden : reading few (2 ∷ 7 ∷ []) ≡ log_full
  pub shown : reading more (2 ∷ 7 ∷ []) ≡ bad_roll
  -- without counters
  pub at_it_old : reading_old few (1 ∷ 4 ∷ []) ≡ 0
  pub one_action_more_old : reading_old few (2 ∷ 4 ∷ 4 ∷ []) ≡ log_full
  pub one_move_more_old : reading_old few (1 ∷ 2 ∷ 0 ∷ []) ≡ log_full
  pub accepted_old : reading_old more (1 ∷ 2 ∷ 0 ∷ []) ≡ 0
  -- written: an offer, and a second
  pub writes : ((roll_writer few).answer empty_board (2 ∷ replicate 7 0) 1 72).number ≡ 0
  pub writes_too : ((roll_writer more).answer empty_board (2 ∷ replicate 7 0) 1 72).number ≡ 0
  pub writes_none : ((roll_writer few).answer empty_board (2 ∷ 0 ∷ 0 ∷ 0 ∷ 2 ∷ 0 ∷ 0 ∷ 0 ∷ []) 2 73).number ≡ log_full
  pub writes_longer : ((roll_writer more).answer empty_board (2 ∷ 0 ∷ 0 ∷ 0 ∷ 2 ∷ 0 ∷ 0 ∷ 0 ∷ []) 2 73).number ≡ 0

-- which calls the smaller limits have room for: one action, and no move
pub record RoomAtSmallest : Type 0 where
  pub first_offer : room_after few 0 0 (offer_draw 0) ≡ true
  pub second_offer : room_after few 1 0 (offer_draw 0) ≡ false
  pub first_move : room_after few 0 0 (make_move 0 (on_empty 1 0 [])) ≡ false
  pub larger_move : room_after more 0 0 (make_move 0 (on_empty 1 0 [])) ≡ true
  pub at_the_limit : within few 1 0 ≡ true
  pub past_actions : within few 2 0 ≡ false
  pub past_moves : within few 1 1 ≡ false
  -- the moves go by their own limit, not by that of the actions
  pub last_move_fact : room_after more 1 0 (make_move 0 (on_empty 1 0 [])) ≡ true
  pub no_move_left : room_after more 0 1 (make_move 0 (on_empty 1 0 [])) ≡ false

-- a roll of the empty record by its count and actions, read under limits that ask for a longer part than it is: whether these are within the smaller ones
abbrev pub roll_within : Limits → List ℕ → Bool
roll_within L s = within_of true L (record { most_actions = 100; most_moves = 50 }) (replicate record_size 0 ++ (0 ∷ 1 ∷ s)) (replicate 400 9)

pub record WithinAtSmallest : Type 0 where
  -- two actions, of which one is a move, are within two actions and one move, and not within one action, or no move
  pub within_both : roll_within more (2 ∷ 2 ∷ 0 ∷ 4 ∷ []) ≡ true
  pub too_many : roll_within (record { most_actions = 1; most_moves = 2 }) (2 ∷ 2 ∷ 0 ∷ 4 ∷ []) ≡ false
  pub no_moves : roll_within (record { most_actions = 2; most_moves = 0 }) (2 ∷ 2 ∷ 0 ∷ 4 ∷ []) ≡ false
  -- two offers have no move
  pub only_offers : roll_within (record { most_actions = 2; most_moves = 0 }) (2 ∷ 4 ∷ 4 ∷ []) ≡ true
  pub one_offer : roll_within (record { most_actions = 0; most_moves = 1 }) (1 ∷ 4 ∷ []) ≡ false

-- what a log without an action is answered
abbrev pub calling : Limits → Call → ℕ
calling L c = call_answer L actions_of_more positions_of_more 0 0 c

pub record LogsAtSmallest : Type 0 where
  -- an offer has room under both; a refusal stands before 13
  pub offer : calling few (offer_draw 0) ≡ 0
  pub offer_too : calling more (offer_draw 0) ≡ 0
  pub not_in_the_list : calling few (make_move 1 (on_empty 1 0 [])) ≡ not_listed
  pub not_in_the_list_too : calling more (make_move 1 (on_empty 1 0 [])) ≡ not_listed
  -- after an offer there is no room for a second under the smaller; a count of two is not a log under it
  pub second : call_answer few (2 ∷ replicate 7 0) positions_of_more 1 0 (offer_draw 0) ≡ log_full
  pub second_made : call_answer more (2 ∷ replicate 7 0) positions_of_more 1 0 (offer_draw 0) ≡ 0
  pub counted_two : (result_answer few (2 ∷ 0 ∷ 0 ∷ 0 ∷ 2 ∷ 0 ∷ 0 ∷ 0 ∷ []) positions_of_more 2 0).number ≡ not_good
  pub counted_two_too : (result_answer more (2 ∷ 0 ∷ 0 ∷ 0 ∷ 2 ∷ 0 ∷ 0 ∷ 0 ∷ []) positions_of_more 2 0).number ≡ 0
  -- parts of the smaller size are too short for the larger
  pub short : call_answer few (replicate 4 0) start_bytes 0 0 (offer_draw 0) ≡ 0
  pub short_actions : call_answer more (replicate 4 0) positions_of_more 0 0 (offer_draw 0) ≡ part_too_short
  pub short_positions : call_answer more actions_of_more start_bytes 0 0 (offer_draw 0) ≡ part_too_short

-- the parts at document 01's limits, and those of the orders. Document 01's positions had 580 bytes, 594,500 in all; with the counters they have 584
pub record Sizes : Type 0 where
  pub old_actions : actions_length old_limits ≡ 8192
  pub old_positions : positions_length old_limits ≡ 598600
  pub actions : actions_length limits ≡ 32768
  pub positions : positions_length limits ≡ 2392648
