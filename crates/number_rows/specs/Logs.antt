-- Actions and positions in the log, in bytes (document 01, "Numbers of the record, the move and the log"; document 02, order 12): an action has 4 bytes, a
-- position 584. The moves are 22,284 = 87 × 256 + 12, from 12 to 28 with promotion 5, and 1,804 = 7 × 256 + 12.
-- Assumes nothing.
use Rattle.std.specs.Prelude.{ℕ, ◌≡◌, true, false, List, [], ◌∷◌, ◌++◌, replicate, take, Some, None}
use Rattle.action.specs.declared.Action.TheVariants.{MakeMove, OfferDraw, AcceptDraw, DeclareDraw, Resign}
use Rattle.action.specs.Layout.{action_size, action_bytes, action_check, action_of}
use Rattle.actions.specs.Part.{action_at, move_at, moves_in, actions_held, last_action}
use Rattle.position.specs.declared.Places.{Places}
use Rattle.position.specs.Layout.{Position, half_at, full_at, check_at, length_at, moves_at, position_size, side, position_of, position_at, positions_from}
use Rattle.position.specs.Repeats.{equals_two_earlier}
use Rattle.position.specs.Places.{equal_places}
use Rattle.position.specs.Promises.{used_to}
use Rattle.stored_position.specs.Bytes.{position_bytes, position_check, position_given, is_position, lists_move, is_position_with}
use Rattle.number_rows.specs.Moves.{from_to}
use Rattle.number_rows.specs.Records.{seventy, a_man}

pub record ActionsInBytes : Type 0 where
  pub size : action_size ≡ 4
  pub move : action_bytes (MakeMove (from_to 12 28 5)) ≡ 1 ∷ 0 ∷ 12 ∷ 87 ∷ []
  pub offer : action_bytes (OfferDraw 1) ≡ 2 ∷ 1 ∷ 0 ∷ 0 ∷ []
  pub acceptance : action_bytes AcceptDraw ≡ 3 ∷ 0 ∷ 0 ∷ 0 ∷ []
  pub declaration : action_bytes DeclareDraw ≡ 4 ∷ 0 ∷ 0 ∷ 0 ∷ []
  pub resignation : action_bytes (Resign 1) ≡ 5 ∷ 1 ∷ 0 ∷ 0 ∷ []
  pub move_good : action_check (MakeMove (from_to 12 28 5)) ≡ 0
  pub move_bad : action_check (MakeMove (from_to 64 28 5)) ≡ 5
  pub offer_black : action_check (OfferDraw 1) ≡ 0
  pub offer_2 : action_check (OfferDraw 2) ≡ 5
  pub accept_good : action_check AcceptDraw ≡ 0
  pub declare_good : action_check DeclareDraw ≡ 0
  pub resign_black : action_check (Resign 1) ≡ 0
  pub resign_2 : action_check (Resign 2) ≡ 5

pub record BytesAsActions : Type 0 where
  pub move : action_of (1 ∷ 0 ∷ 12 ∷ 87 ∷ []) ≡ Some (MakeMove (from_to 12 28 5))
  pub last_move_fact : action_of (1 ∷ 0 ∷ 255 ∷ 111 ∷ []) ≡ Some (MakeMove (from_to 63 63 6))
  pub past_it : action_of (1 ∷ 0 ∷ 0 ∷ 112 ∷ []) ≡ None
  pub move_with_colour : action_of (1 ∷ 1 ∷ 12 ∷ 87 ∷ []) ≡ None
  pub offer_white : action_of (2 ∷ 0 ∷ 0 ∷ 0 ∷ []) ≡ Some (OfferDraw 0)
  pub offer_black : action_of (2 ∷ 1 ∷ 0 ∷ 0 ∷ []) ≡ Some (OfferDraw 1)
  pub offer_2 : action_of (2 ∷ 2 ∷ 0 ∷ 0 ∷ []) ≡ None
  pub offer_with_low_byte : action_of (2 ∷ 1 ∷ 1 ∷ 0 ∷ []) ≡ None
  pub offer_with_high_byte : action_of (2 ∷ 1 ∷ 0 ∷ 1 ∷ []) ≡ None
  pub acceptance : action_of (3 ∷ 0 ∷ 0 ∷ 0 ∷ []) ≡ Some AcceptDraw
  pub acceptance_with_colour : action_of (3 ∷ 1 ∷ 0 ∷ 0 ∷ []) ≡ None
  pub acceptance_with_move : action_of (3 ∷ 0 ∷ 1 ∷ 0 ∷ []) ≡ None
  pub declaration : action_of (4 ∷ 0 ∷ 0 ∷ 0 ∷ []) ≡ Some DeclareDraw
  pub declaration_with_colour : action_of (4 ∷ 1 ∷ 0 ∷ 0 ∷ []) ≡ None
  pub declaration_with_move : action_of (4 ∷ 0 ∷ 1 ∷ 0 ∷ []) ≡ None
  pub resign_white : action_of (5 ∷ 0 ∷ 0 ∷ 0 ∷ []) ≡ Some (Resign 0)
  pub resign_black : action_of (5 ∷ 1 ∷ 0 ∷ 0 ∷ []) ≡ Some (Resign 1)
  pub resign_2 : action_of (5 ∷ 2 ∷ 0 ∷ 0 ∷ []) ≡ None
  pub resign_with_move : action_of (5 ∷ 1 ∷ 1 ∷ 0 ∷ []) ≡ None
  pub kind_0 : action_of (0 ∷ 0 ∷ 0 ∷ 0 ∷ []) ≡ None
  pub kind_6 : action_of (6 ∷ 0 ∷ 0 ∷ 0 ∷ []) ≡ None
  pub three_bytes : action_of (3 ∷ 0 ∷ 0 ∷ []) ≡ None
  pub five_bytes : action_of (3 ∷ 0 ∷ 0 ∷ 0 ∷ 0 ∷ []) ≡ None

-- a move, an offer, bytes that hold nothing, the last move there is; and the three other actions
abbrev pub four_actions : List ℕ
four_actions = 1 ∷ 0 ∷ 12 ∷ 87 ∷ 2 ∷ 1 ∷ 0 ∷ 0 ∷ 9 ∷ 9 ∷ 9 ∷ 9 ∷ 1 ∷ 0 ∷ 255 ∷ 111 ∷ []

abbrev pub three_actions : List ℕ
three_actions = 3 ∷ 0 ∷ 0 ∷ 0 ∷ 4 ∷ 0 ∷ 0 ∷ 0 ∷ 5 ∷ 1 ∷ 0 ∷ 0 ∷ []

pub record ActionsOfAPart : Type 0 where
  pub second : action_at four_actions 1 ≡ Some (OfferDraw 1)
  pub first_move : move_at four_actions 0 ≡ 22284
  pub offer_none : move_at four_actions 1 ≡ 28672
  pub nothing_none : move_at four_actions 2 ≡ 28672
  pub acceptance_none : move_at three_actions 0 ≡ 28672
  pub declaration_none : move_at three_actions 1 ≡ 28672
  pub resignation_none : move_at three_actions 2 ≡ 28672
  pub of_four : moves_in four_actions 4 ≡ 2
  pub of_three : moves_in four_actions 3 ≡ 1
  pub of_none : moves_in four_actions 0 ≡ 0
  pub two_held : actions_held four_actions 2 ≡ true
  pub third_not : actions_held four_actions 3 ≡ false
  pub nor_four : actions_held four_actions 4 ≡ false
  pub none_held : actions_held four_actions 0 ≡ true
  pub last_of_two : last_action four_actions 2 ≡ Some (OfferDraw 1)
  pub last_of_none : last_action four_actions 0 ≡ None

-- the record, its counters, the in-check byte, and a list
abbrev pub position_has : List ℕ → ℕ → ℕ → ℕ → List ℕ → Position
position_has b half full check moves = record { board = b; half = half; full = full; check = check; moves = moves }

-- 300 = 1 × 256 + 44 half-moves, move 513 = 2 × 256 + 1, in check, two moves
abbrev pub queen_in_check : Position
queen_in_check = position_has (a_man 9 5 ++ (1 ∷ 2 ∷ 3 ∷ 4 ∷ [])) 300 513 1 (1804 ∷ 22284 ∷ [])

abbrev pub queen_bytes : List ℕ
queen_bytes = a_man 9 5 ++ (1 ∷ 2 ∷ 3 ∷ 4 ∷ 44 ∷ 1 ∷ 1 ∷ 2 ∷ 1 ∷ 2 ∷ 12 ∷ 7 ∷ 12 ∷ 87 ∷ replicate 506 0)

pub record PositionsInBytes : Type 0 where
  pub places : (half_at ≡ 68) × (full_at ≡ 70) × (check_at ≡ 72) × (length_at ≡ 73) × (moves_at ≡ 74)
  pub size : position_size ≡ 584
  pub read : position_of queen_bytes ≡ queen_in_check
  pub not_there : position_of [] ≡ position_has [] 0 0 0 []
  pub half_a_move : (position_of (replicate 73 0 ++ (1 ∷ 12 ∷ []))).moves ≡ 12 ∷ []
  pub black_to_move : side queen_in_check ≡ 1
  pub no_side_lem : side (position_has (a_man 9 5) 300 513 1 []) ≡ 0
  pub written : position_bytes queen_in_check ≡ queen_bytes
  pub given : position_given (seventy (a_man 9 5) 1 2 3 4 300 513) 1 (1804 ∷ 22284 ∷ []) ≡ queen_in_check
  pub good : position_check queen_in_check ≡ 0
  pub side_2 : position_check (position_has (a_man 9 5 ++ (2 ∷ 2 ∷ 3 ∷ 4 ∷ [])) 300 513 1 (1804 ∷ 28672 ∷ [])) ≡ 5
  pub half_10000 : position_check (position_has (a_man 9 5 ++ (1 ∷ 2 ∷ 3 ∷ 4 ∷ [])) 10000 513 1 []) ≡ 5
  pub full_0 : position_check (position_has (a_man 9 5 ++ (1 ∷ 2 ∷ 3 ∷ 4 ∷ [])) 300 0 1 []) ≡ 5
  pub check_2 : position_check (position_has (a_man 9 5 ++ (1 ∷ 2 ∷ 3 ∷ 4 ∷ [])) 300 513 2 []) ≡ 5
  pub move_28672 : position_check (position_has (a_man 9 5 ++ (1 ∷ 2 ∷ 3 ∷ 4 ∷ [])) 300 513 1 (1804 ∷ 28672 ∷ [])) ≡ 6

pub record BytesAsPositions : Type 0 where
  pub whole : is_position queen_bytes ≡ true
  pub one_short : is_position (take 583 queen_bytes) ≡ false
  pub one_more_lem : is_position (queen_bytes ++ (0 ∷ [])) ≡ false
  pub check_2 : is_position (a_man 9 5 ++ (1 ∷ 2 ∷ 3 ∷ 4 ∷ 44 ∷ 1 ∷ 1 ∷ 2 ∷ 2 ∷ 0 ∷ replicate 510 0)) ≡ false
  pub rest_not_zero : is_position (a_man 9 5 ++ (1 ∷ 2 ∷ 3 ∷ 4 ∷ 44 ∷ 1 ∷ 1 ∷ 2 ∷ 1 ∷ 0 ∷ 1 ∷ replicate 509 0)) ≡ false
  pub lists_both : (lists_move queen_bytes 1804 ≡ true) × (lists_move queen_bytes 22284 ≡ true)
  pub lists_no_other : lists_move queen_bytes 1805 ≡ false
  pub lists_one_short : lists_move (take 583 queen_bytes) 1804 ≡ false
  pub lists_one_more : lists_move (queen_bytes ++ (0 ∷ [])) 1804 ≡ false
  pub with_move : is_position_with queen_bytes 1804 ≡ true
  pub without_move : is_position_with queen_bytes 1805 ≡ false
  pub with_move_no_position : is_position_with (a_man 9 5 ++ (2 ∷ 2 ∷ 3 ∷ 4 ∷ 44 ∷ 1 ∷ 1 ∷ 2 ∷ 1 ∷ 1 ∷ 12 ∷ 7 ∷ replicate 508 0)) 1804 ≡ false

-- positions with one man each, a queen, a rook, a queen, a pawn, a queen
abbrev pub man_first : ℕ → List ℕ
man_first code = code ∷ replicate 583 0

abbrev pub five_positions : List ℕ
five_positions = man_first 5 ++ (man_first 4 ++ (man_first 5 ++ (man_first 1 ++ man_first 5)))

-- and a rook, then three queens
abbrev pub four_positions : List ℕ
four_positions = man_first 4 ++ (man_first 5 ++ (man_first 5 ++ man_first 5))

-- how many, and the first two
abbrev pub places_are : ℕ → ℕ → ℕ → Places
places_are count first second = record { count = count; first = first; second = second }

pub record PositionsOfAPart : Type 0 where
  pub second : (position_at five_positions 1).board ≡ 4 ∷ replicate 67 0
  pub newest_first : positions_from five_positions 2 2 ≡
      position_has (1 ∷ replicate 67 0) 0 0 0 [] ∷ position_has (5 ∷ replicate 67 0) 0 0 0 [] ∷ []
  pub none : positions_from five_positions 2 0 ≡ []
  pub three_times : equals_two_earlier five_positions 0 4 ≡ true
  pub last_three : equals_two_earlier four_positions 0 3 ≡ true
  pub twice : equals_two_earlier five_positions 1 4 ≡ false
  pub earlier : equals_two_earlier five_positions 0 2 ≡ false
  pub not_whole : equals_two_earlier (take 2919 five_positions) 0 4 ≡ false
  pub places : equal_places five_positions 0 4 ≡ places_are 2 0 2
  pub places_from_1 : equal_places five_positions 1 4 ≡ places_are 1 2 0
  pub no_places : equal_places five_positions 0 3 ≡ places_are 0 0 0
  pub places_not_whole : equal_places (take 2919 five_positions) 0 4 ≡ places_are 0 0 0
  pub used : used_to 3 ≡ 2336
