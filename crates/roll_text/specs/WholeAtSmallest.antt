-- Whole rolls, byte by byte: every kind of action, written, read, and left in the part; each number of the record at its bound and over it; the answers.
-- Assumes nothing.
use Rattle.std.specs.Prelude.{ℕ, ◌≡◌, List, [], ◌∷◌, ◌++◌, replicate, set, Some, None}
use Rattle.board_builder.specs.declared.BoardBuilder.{BoardBuilder}
use Rattle.board_builder.specs.BoardBuilder.{board, with_counters, no_board}
use Rattle.game_rules.specs.Limits.{Limits}
use Rattle.roll_text.specs.Number.{number_text, read_number}
use Rattle.roll_text.specs.Calls.{roll_answer, roll_over, judged, write_check, game_text}

-- eight actions, of which two are moves: a part has 32 bytes
abbrev pub eight : Limits
eight = record { most_actions = 8; most_moves = 2 }

-- a black king on a1, black to move, white's right 2, black's 3, file 8, 300 half-moves (2 × 128 + 44), move 7; and a white knight on h8, both with all
-- rights
abbrev pub king_on_a1 : BoardBuilder
king_on_a1 = with_counters (board (set (replicate 64 0) 0 12) 1 2 3 8) 300 7

abbrev pub knight_on_h8 : BoardBuilder
knight_on_h8 = board (set (replicate 64 0) 63 2) 0 3 3 0

abbrev pub kings_numbers : List ℕ
kings_numbers = 12 ∷ replicate 63 0 ++ (1 ∷ 2 ∷ 3 ∷ 8 ∷ 172 ∷ 2 ∷ 7 ∷ [])

-- e2e4, the last move there is, two offers, accept, declare, two resignations: the bytes, and their text. 1804 is 14 × 128 + 12, 28671 is
-- 128 × 128 + 95 × 128 + 127
abbrev pub every_action : List ℕ
every_action =
    1 ∷ 0 ∷ 12 ∷ 7 ∷ 1 ∷ 0 ∷ 255 ∷ 111 ∷ 2 ∷ 0 ∷ 0 ∷ 0 ∷ 2 ∷ 1 ∷ 0 ∷ 0 ∷ 3 ∷ 0 ∷ 0 ∷ 0 ∷ 4 ∷ 0 ∷ 0 ∷ 0 ∷ 5 ∷ 0 ∷ 0 ∷ 0 ∷ 5 ∷ 1 ∷ 0 ∷ 0 ∷ []

abbrev pub every_text : List ℕ
every_text = 8 ∷ 2 ∷ 140 ∷ 14 ∷ 2 ∷ 255 ∷ 223 ∷ 1 ∷ 4 ∷ 5 ∷ 6 ∷ 8 ∷ 10 ∷ 11 ∷ []

-- the answer to a record's 68 numbers, with 0 and 1 for its counters, and what follows
abbrev pub answers : List ℕ → List ℕ → ℕ
answers numbers rest = (roll_answer (judged eight (numbers ++ (0 ∷ 1 ∷ rest)) 32)).number

-- the empty record but for its last four numbers
abbrev pub last_four : ℕ → ℕ → ℕ → ℕ → List ℕ
last_four side white black file = replicate 64 0 ++ (side ∷ white ∷ black ∷ file ∷ [])

pub record WholeAtSmallest : Type 0 where
  -- "the 68 record numbers of the start", "both after the old 68 numbers",
  -- "the action count, then for each action kind × 2 + colour and, for a move, the move number"
  pub written : game_text king_on_a1 every_action 8 ≡ kings_numbers ++ every_text
  pub written_check : write_check eight king_on_a1 every_action 8 ≡ 0
  pub knight_written : game_text knight_on_h8 [] 0 ≡ (replicate 63 0 ++ (2 ∷ 0 ∷ 3 ∷ 3 ∷ 0 ∷ [])) ++ (0 ∷ 1 ∷ 0 ∷ [])
  pub read : roll_answer (judged eight (kings_numbers ++ every_text) 32) ≡ record { number = 0; actions = 8; board = king_on_a1 }
  pub left : roll_over (judged eight (kings_numbers ++ every_text) 32) (replicate 34 9) ≡ every_action ++ (9 ∷ 9 ∷ [])
  -- a refused call: its number and zeros, and the part as it was
  pub refused : roll_answer (judged eight (kings_numbers ++ every_text) 31) ≡ record { number = 16; actions = 0; board = no_board }
  pub refused_left : roll_over (judged eight (kings_numbers ++ every_text) 31) (replicate 31 9) ≡ replicate 31 9
  -- each of the last four numbers at its bound, and one over
  pub at_bounds : answers (last_four 1 3 3 8) (0 ∷ []) ≡ 0
  pub side_over : answers (last_four 2 0 0 0) (0 ∷ []) ≡ 5
  pub white_over : answers (last_four 0 4 0 0) (0 ∷ []) ≡ 5
  pub black_over : answers (last_four 0 0 4 0) (0 ∷ []) ≡ 5
  pub file_over : answers (last_four 0 0 0 9) (0 ∷ []) ≡ 5
  -- codes: 2, 4, 5, 6, 8, 10 and 11 alone
  pub code_3 : answers (last_four 0 0 0 0) (1 ∷ 3 ∷ []) ≡ 17
  pub code_7 : answers (last_four 0 0 0 0) (1 ∷ 7 ∷ []) ≡ 17
  pub code_9 : answers (last_four 0 0 0 0) (1 ∷ 9 ∷ []) ≡ 17
  pub code_12 : answers (last_four 0 0 0 0) (1 ∷ 12 ∷ []) ≡ 17
  -- a move's number: 28,671 and no more; two moves and no more
  pub move_over : answers (last_four 0 0 0 0) (1 ∷ 2 ∷ 128 ∷ 224 ∷ 1 ∷ []) ≡ 17
  pub move_cut : answers (last_four 0 0 0 0) (1 ∷ 2 ∷ []) ≡ 17
  pub third_move : answers (last_four 0 0 0 0) (3 ∷ 2 ∷ 0 ∷ 2 ∷ 0 ∷ 2 ∷ 0 ∷ []) ≡ 13
  -- numbers at the edges of their groups
  pub text_127 : number_text 127 ≡ 127 ∷ []
  pub text_128 : number_text 128 ≡ 128 ∷ 1 ∷ []
  pub text_16384 : number_text 16384 ≡ 128 ∷ 128 ∷ 1 ∷ []
  pub read_127 : read_number (127 ∷ []) ≡ Some (127, 1)
  pub read_128 : read_number (128 ∷ 1 ∷ []) ≡ Some (128, 2)
  pub five_groups : read_number (128 ∷ 128 ∷ 128 ∷ 128 ∷ 1 ∷ []) ≡ Some (268435456, 5)
  pub six_groups : read_number (128 ∷ 128 ∷ 128 ∷ 128 ∷ 128 ∷ 1 ∷ []) ≡ None
