-- The order of the checks of a log call (document 01, "Answer numbers": 16, 9, 10, then for a move 11, 5, 6, 12, 13; document 02, order 9: 24
-- after 12 and before 13), at its smallest: each call breaks the check of its row and all that come after it, so that any later check tested before it
-- would give another number. Then the counters (document 02, order 12), of a start, of a stored position and of a next one.
-- Assumes nothing.
use Rattle.std.specs.Prelude.{◌≡◌, List, [], ◌∷◌, ◌++◌, ℕ, replicate, true, false, Some, None}
use Rattle.answer.specs.Answer.{out_of_range, bad_list, not_good, game_over, not_listed, wrong_side, wrong_record, log_full, no_offer, no_claim, part_too_short}
use Rattle.board_builder.specs.BoardBuilder.{record_size}
use Rattle.position.specs.Layout.{Position, position_size}
use Rattle.stored_position.specs.Bytes.{position_bytes}
use Rattle.game_rules.specs.Limits.{Limits}
use Rattle.game_rules.specs.Rules.{Call, make_move, offer_draw, accept_draw, declare_draw, resign}
use Rattle.game_rules.specs.Calls.{log_check, call_answer, start_answer}
use Rattle.ending.specs.Ending.{result_of, offer_in}
use Rattle.claim.specs.Claim.{claim_in}
use Rattle.action.specs.declared.Action.TheVariants.{MakeMove, OfferDraw, AcceptDraw, DeclareDraw, Resign}

-- limits of no action and no move: every call breaks 13
abbrev pub no_room : Limits
no_room = record { most_actions = 0; most_moves = 0 }

-- an empty board with a side to move, an in-check byte and a list; in the first move, with no half-move made, or white's
abbrev pub on_empty : ℕ → ℕ → List ℕ → Position
on_empty side check moves =
    record { board = replicate 64 0 ++ (side ∷ 0 ∷ 0 ∷ 0 ∷ []); half = side; full = 1; check = check; moves = moves }

-- the bytes of a start with white to move and move 0 in its list
abbrev pub start_bytes : List ℕ
start_bytes = position_bytes (on_empty 0 0 (0 ∷ []))

-- what a log without an action is answered, its positions part as given
abbrev pub answered : List ℕ → Call → ℕ
answered ps c = call_answer no_room [] ps 0 0 c

-- a next position that breaks 5, 6, 12 and 24: an in-check byte of 2, an entry of 28,672, and white to move again, where an empty board with black to
-- move is what move 0 leaves
abbrev pub all_wrong : Position
all_wrong = on_empty 0 2 (28672 ∷ [])

-- those that break 24: a pawn stands on a1; no half-move is counted; the next move's number
abbrev pub pawn_more : Position
pawn_more = record { board = 1 ∷ replicate 63 0 ++ (1 ∷ 0 ∷ 0 ∷ 0 ∷ []); half = 1; full = 1; check = 0; moves = [] }

abbrev pub not_counted : Position
not_counted = record { board = replicate 64 0 ++ (1 ∷ 0 ∷ 0 ∷ 0 ∷ []); half = 0; full = 1; check = 0; moves = [] }

abbrev pub next_number : Position
next_number = record { board = replicate 64 0 ++ (1 ∷ 0 ∷ 0 ∷ 0 ∷ []); half = 1; full = 2; check = 0; moves = [] }

pub record ChecksInOrder : Type 0 where
  -- a part without a position: it is too short, is not a good log, and has no move to play
  pub gives_16 : answered [] (make_move 1 all_wrong) ≡ part_too_short
  -- an in-check byte of 2 and an empty list: not good, and the game would be over
  pub gives_9 : answered (position_bytes (on_empty 0 2 [])) (make_move 1 all_wrong) ≡ not_good
  -- a good log whose game is over, so that its list has no move
  pub gives_10 : answered (position_bytes (on_empty 0 0 [])) (make_move 1 all_wrong) ≡ game_over
  -- from here on a good log that goes on, with move 0 in its list
  pub gives_11 : answered start_bytes (make_move 1 all_wrong) ≡ not_listed
  pub gives_5 : answered start_bytes (make_move 0 all_wrong) ≡ out_of_range
  pub gives_6 : answered start_bytes (make_move 0 (on_empty 0 0 (28672 ∷ []))) ≡ bad_list
  pub gives_12 : answered start_bytes (make_move 0 (on_empty 0 0 [])) ≡ wrong_side
  pub gives_24 : answered start_bytes (make_move 0 pawn_more) ≡ wrong_record
  pub half_gives_24 : answered start_bytes (make_move 0 not_counted) ≡ wrong_record
  pub full_gives_24 : answered start_bytes (make_move 0 next_number) ≡ wrong_record
  pub gives_13 : answered start_bytes (make_move 0 (on_empty 1 0 [])) ≡ log_full
  -- for an offer or a resignation 5, 13; for the others 14 or 15, then 13
  pub offer_gives_5 : answered start_bytes (offer_draw 2) ≡ out_of_range
  pub resignation_gives_5 : answered start_bytes (resign 2) ≡ out_of_range
  pub gives_14 : answered start_bytes accept_draw ≡ no_offer
  pub gives_15 : answered start_bytes declare_draw ≡ no_claim
  -- a start: 16, 5, 6
  pub start_16 : start_answer no_room [] [] all_wrong ≡ part_too_short
  pub start_5 : start_answer no_room [] start_bytes all_wrong ≡ out_of_range
  pub start_6 : start_answer no_room [] start_bytes (on_empty 0 0 (28672 ∷ [])) ≡ bad_list
  -- results
  pub white_mated : result_of (on_empty 0 1 []) None ≡ 3
  pub black_mated : result_of (on_empty 1 1 []) None ≡ 1
  pub stale : result_of (on_empty 0 0 []) None ≡ 5
  pub white_resigned : result_of (on_empty 0 0 (0 ∷ [])) (Some (Resign 0)) ≡ 2
  pub black_resigned : result_of (on_empty 0 0 (0 ∷ [])) (Some (Resign 1)) ≡ 4
  pub accepted_draw : result_of (on_empty 0 0 (0 ∷ [])) (Some AcceptDraw) ≡ 6
  pub declared_draw : result_of (on_empty 0 0 (0 ∷ [])) (Some DeclareDraw) ≡ 7
  -- offers: the last but one by the side not to move
  pub offer_before : offer_in (on_empty 0 0 (0 ∷ [])) (Some AcceptDraw) (Some (OfferDraw 1)) ≡ true
  pub offer_own : offer_in (on_empty 0 0 (0 ∷ [])) (Some AcceptDraw) (Some (OfferDraw 0)) ≡ false
  -- 100
  pub hundred : claim_in [] 100 (record { first = 100; since = 0 }) ≡ true
  pub ninety_nine : claim_in [] 99 (record { first = 99; since = 0 }) ≡ false

-- an empty board with white to move and a list, and its counters
abbrev pub counted_start : ℕ → ℕ → List ℕ → Position
counted_start half full moves = record { board = replicate record_size 0; half = half; full = full; check = 0; moves = moves }

-- what such a start is answered, on parts that are long enough
abbrev pub started_at : ℕ → ℕ → List ℕ → ℕ
started_at half full moves = start_answer no_room [] (replicate position_size 0) (counted_start half full moves)

-- room for one move; and the check of a log whose one move is move 0, with the position after it
abbrev pub one_move : Limits
one_move = record { most_actions = 1; most_moves = 1 }

abbrev pub with_next : Position → ℕ
with_next next = log_check one_move (1 ∷ replicate 3 0) (start_bytes ++ position_bytes next) 1 1

pub record CountersInOrder : Type 0 where
  -- a start's counters are free within their range; out of it 5, before 6 for its list
  pub largest_start : started_at 9999 9999 [] ≡ 0
  pub clock_gives_5 : started_at 10000 1 (28672 ∷ []) ≡ out_of_range
  pub number_gives_5 : started_at 0 0 (28672 ∷ []) ≡ out_of_range
  pub numbers_most_gives_5 : started_at 0 10000 (28672 ∷ []) ≡ out_of_range
  -- the same for a next position, before 6, 12 and 24
  pub next_clock_gives_5 : answered start_bytes (make_move 0 (counted_start 10000 1 (28672 ∷ []))) ≡ out_of_range
  pub next_number_gives_5 : answered start_bytes (make_move 0 (counted_start 0 0 (28672 ∷ []))) ≡ out_of_range
  -- a stored start: 9 for counters out of range, any others are good
  pub stored_start : log_check no_room [] (position_bytes (counted_start 7 40 [])) 0 0 ≡ 0
  pub stored_clock_gives_9 : log_check no_room [] (position_bytes (counted_start 10000 1 [])) 0 0 ≡ not_good
  pub stored_number_gives_9 : log_check no_room [] (position_bytes (counted_start 0 0 [])) 0 0 ≡ not_good
  -- a stored move: 9 for counters that are not those after it
  pub counted : with_next (on_empty 1 0 []) ≡ 0
  pub half_gives_9 : with_next not_counted ≡ not_good
  pub full_gives_9 : with_next next_number ≡ not_good
  -- positions of 580 bytes, as they were without counters
  pub old_part_gives_16 : log_check no_room [] (replicate 580 0) 0 0 ≡ part_too_short
