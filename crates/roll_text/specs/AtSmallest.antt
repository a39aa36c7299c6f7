-- Numbers and refusals of a roll at their smallest (document 02, orders 1 and 12). Each roll and each call breaks the check of its row and others that come
-- after it, so that a later check tested before it would give another number.
-- Assumes nothing.
use Rattle.std.specs.Prelude.{ℕ, ◌≡◌, List, [], ◌∷◌, ◌++◌, replicate, Some, None}
use Rattle.answer.specs.Answer.{out_of_range, output_too_short, log_full, part_too_short, bad_roll, write_answer}
use Rattle.board_builder.specs.declared.BoardBuilder.{BoardBuilder}
use Rattle.board_builder.specs.BoardBuilder.{board, with_counters, all_numbers, record_size, squares, empty_board, no_board}
use Rattle.game_rules.specs.Limits.{Limits}
use Rattle.roll_text.specs.Number.{number_text, read_number}
use Rattle.roll_text.specs.Calls.{roll_answer, judged, judged_old, write_check, game_text}

-- 300 is 2 × 128 + 44
pub record NumbersAtSmallest : Type 0 where
  pub one_group : number_text 127 ≡ 127 ∷ []
  pub lowest_first : number_text 300 ≡ 172 ∷ 2 ∷ []
  pub reads : read_number (172 ∷ 2 ∷ []) ≡ Some (300, 2)
  pub cut_short : read_number (172 ∷ []) ≡ None
  pub needless : read_number (172 ∷ 130 ∷ 0 ∷ []) ≡ None
  pub six_groups : read_number (128 ∷ 128 ∷ 128 ∷ 128 ∷ 128 ∷ 1 ∷ []) ≡ None
  pub five_groups : read_number (128 ∷ 128 ∷ 128 ∷ 128 ∷ 1 ∷ []) ≡ Some (268435456, 5)

-- limits of two actions and no move: a part has 8 bytes
abbrev pub fewest : Limits
fewest = record { most_actions = 2; most_moves = 0 }

abbrev pub reading_gives : List ℕ → ℕ
reading_gives s = (roll_answer (judged fewest s 8)).number

abbrev pub old_reading_gives : List ℕ → ℕ
old_reading_gives s = (roll_answer (judged_old fewest s 8)).number

-- the same where one move may come
abbrev pub reading_one : List ℕ → ℕ
reading_one s = (roll_answer (judged (record { most_actions = 2; most_moves = 1 }) s 8)).number

-- a roll of the empty record, by what follows its 68 numbers; and by what follows the record
abbrev pub placed_with : List ℕ → List ℕ
placed_with s = replicate record_size 0 ++ s

abbrev pub started_with : List ℕ → List ℕ
started_with s = placed_with (0 ∷ 1 ∷ s)

pub record ReadingAtSmallest : Type 0 where
  pub gives_16 : (roll_answer (judged fewest [] 7)).number ≡ part_too_short
  -- a record number over its bound, and then nothing
  pub gives_5 : reading_gives (13 ∷ []) ≡ out_of_range
  -- the same number, its second group needless
  pub shortest_before_5 : reading_gives (141 ∷ 0 ∷ []) ≡ bad_roll
  -- a clock of 9,999 and of 10,000 (78 × 128 + 16), and then nothing; the same with a needless group
  pub clock_most : reading_gives (placed_with (143 ∷ 78 ∷ [])) ≡ bad_roll
  pub clock_gives_5 : reading_gives (placed_with (144 ∷ 78 ∷ [])) ≡ out_of_range
  pub clock_shortest_before_5 : reading_gives (placed_with (144 ∷ 206 ∷ 0 ∷ [])) ≡ bad_roll
  -- a move number of 0, of 9,999 and of 10,000, and then nothing
  pub move_number_zero : reading_gives (placed_with (0 ∷ 0 ∷ [])) ≡ out_of_range
  pub move_number_most : reading_gives (placed_with (0 ∷ 143 ∷ 78 ∷ [])) ≡ bad_roll
  pub move_number_gives_5 : reading_gives (placed_with (0 ∷ 144 ∷ 78 ∷ [])) ≡ out_of_range
  -- a count over the limit, and then nothing; the same with a needless group
  pub count_gives_13 : reading_gives (started_with (3 ∷ [])) ≡ log_full
  pub shortest_before_13 : reading_gives (started_with (131 ∷ 0 ∷ [])) ≡ bad_roll
  -- a move past the limit, its number cut short: 13 stands at its code
  pub move_gives_13 : reading_gives (started_with (1 ∷ 2 ∷ [])) ≡ log_full
  -- what is not a code, and a move past the limit behind it
  pub code_gives_17 : reading_gives (started_with (2 ∷ 7 ∷ 2 ∷ [])) ≡ bad_roll
  pub too_short_fact : reading_gives (started_with (1 ∷ [])) ≡ bad_roll
  pub too_long : reading_gives (started_with (1 ∷ 4 ∷ 0 ∷ [])) ≡ bad_roll
  pub accepted : reading_gives (started_with (1 ∷ 4 ∷ [])) ≡ 0
  -- a refused roll hands out zeros, 70 of them
  pub refused : all_numbers (roll_answer (judged fewest [] 8)).board ≡ replicate 70 0
  pub five_groups_give_13 : reading_gives (started_with (128 ∷ 128 ∷ 128 ∷ 128 ∷ 1 ∷ [])) ≡ log_full
  pub six_groups_give_17 : reading_gives (started_with (128 ∷ 128 ∷ 128 ∷ 128 ∷ 128 ∷ 1 ∷ [])) ≡ bad_roll
  pub five_groups_give_5 : reading_gives (128 ∷ 128 ∷ 128 ∷ 128 ∷ 1 ∷ []) ≡ out_of_range
  pub largest_move : reading_one (started_with (1 ∷ 2 ∷ 255 ∷ 223 ∷ 1 ∷ [])) ≡ 0
  pub over_move_gives_17 : reading_one (started_with (1 ∷ 2 ∷ 128 ∷ 224 ∷ 1 ∷ [])) ≡ bad_roll
  pub no_move_gives_17 : reading_one (started_with (1 ∷ 2 ∷ [])) ≡ bad_roll

-- 68 numbers and the count
pub record OldReadingAtSmallest : Type 0 where
  pub accepted : old_reading_gives (placed_with (1 ∷ 4 ∷ [])) ≡ 0
  pub refused : all_numbers (roll_answer (judged_old fewest [] 8)).board ≡ replicate 70 0
  -- on the new call: cut short, without an action and with one; or its first move's number is taken for the count
  pub empty_is_not_new : reading_gives (placed_with (0 ∷ [])) ≡ bad_roll
  pub is_not_new : reading_gives (placed_with (1 ∷ 4 ∷ [])) ≡ bad_roll
  pub move_for_count : reading_gives (placed_with (1 ∷ 2 ∷ 3 ∷ [])) ≡ log_full
  -- a new roll on the old call: no action, and then more
  pub new_is_not_old : old_reading_gives (started_with (1 ∷ 4 ∷ [])) ≡ bad_roll
  pub begins : (roll_answer (judged_old fewest (placed_with (0 ∷ [])) 8)).board ≡ empty_board
  pub counted : (roll_answer (judged fewest (placed_with (143 ∷ 78 ∷ 2 ∷ 0 ∷ [])) 8)).board ≡ with_counters empty_board 9999 2
  -- 71 bytes that are a roll of either kind
  pub both_old : (roll_answer (judged_old (record { most_actions = 2; most_moves = 1 }) (placed_with (1 ∷ 2 ∷ 0 ∷ [])) 8)).actions ≡ 1
  pub both_new : (roll_answer (judged (record { most_actions = 2; most_moves = 1 }) (placed_with (1 ∷ 2 ∷ 0 ∷ [])) 8)).board ≡ with_counters empty_board 1 2

abbrev pub writing_gives : BoardBuilder → List ℕ → ℕ → ℕ → ℕ
writing_gives b part n room = (write_answer (write_check fewest b part n) (game_text b part n) room).number

-- a record whose side is out of range
abbrev pub no_side : BoardBuilder
no_side = board (replicate squares 0) 2 0 0 0

pub record WritingAtSmallest : Type 0 where
  pub gives_16 : writing_gives no_side [] 3 0 ≡ part_too_short
  pub gives_5 : writing_gives no_side (replicate 8 0) 3 0 ≡ out_of_range
  pub clock_gives_5 : writing_gives (with_counters empty_board 10000 1) (replicate 8 0) 3 0 ≡ out_of_range
  pub move_number_gives_5 : writing_gives no_board (replicate 8 0) 3 0 ≡ out_of_range
  pub count_gives_13 : writing_gives empty_board (replicate 8 0) 3 0 ≡ log_full
  pub move_gives_13 : writing_gives empty_board (1 ∷ replicate 7 0) 2 0 ≡ log_full
  -- a move past the limit whose number is 28,672 (112 × 256): 13, as the reader gives at its code; and one with a colour, which no code has
  pub over_move_gives_13 : writing_gives empty_board (1 ∷ 0 ∷ 0 ∷ 112 ∷ replicate 4 0) 2 0 ≡ log_full
  pub coloured_move_gives_13 : writing_gives empty_board (1 ∷ 1 ∷ replicate 6 0) 2 0 ≡ log_full
  -- the last of the part's actions counts, and the bytes behind a kind do not
  pub last_move_gives_13 : writing_gives empty_board (2 ∷ 1 ∷ 1 ∷ 1 ∷ 1 ∷ replicate 3 0) 2 0 ≡ log_full
  pub other_ones_give_17 : writing_gives empty_board (2 ∷ 1 ∷ 1 ∷ 1 ∷ 1 ∷ replicate 3 0) 1 0 ≡ bad_roll
  pub gives_17 : writing_gives empty_board (replicate 8 0) 1 0 ≡ bad_roll
  pub gives_7 : writing_gives empty_board (replicate 8 0) 0 70 ≡ output_too_short
  pub accepted : writing_gives empty_board (replicate 8 0) 0 71 ≡ 0
  -- the clock and the move number behind the 68 numbers, in that order
  pub counters_behind : game_text (with_counters empty_board 5 10) [] 0 ≡ placed_with (5 ∷ 10 ∷ 0 ∷ [])
  -- an old roll that was read is written with 0 and 1
  pub written_anew : game_text (roll_answer (judged_old fewest (placed_with (1 ∷ 4 ∷ [])) 8)).board (2 ∷ replicate 3 0) 1 ≡ started_with (1 ∷ 4 ∷ [])
  pub counters_two_groups : writing_gives (with_counters empty_board 128 128) (replicate 8 0) 0 73 ≡ 0
  pub counters_gives_7 : writing_gives (with_counters empty_board 128 128) (replicate 8 0) 0 72 ≡ output_too_short
