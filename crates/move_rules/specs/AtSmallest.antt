-- The sentences of document 02, orders 9 and 12, each at its smallest: boards with one man or two, and a move as its number, source + 64 * destination +
-- 4,096 * promotion.
-- Assumes nothing.
use Rattle.std.specs.Prelude.{◌≡◌, List, ℕ, ◌+◌, ◌*◌, set, replicate}
use Rattle.board_builder.specs.declared.BoardBuilder.{BoardBuilder}
use Rattle.answer.specs.Answer.{out_of_range, bad_list}
use Rattle.board_builder.specs.BoardBuilder.{board, board_counted, with_counters, uncounted, empty_board, no_board}
use Rattle.board_builder.specs.Steps.{stepped}
use Rattle.move_rules.specs.After.{board_after, after_answer}

-- a board with two men, or one
abbrev pub two_men : ℕ → ℕ → ℕ → ℕ → List ℕ
two_men a man b other = set (set (replicate 64 0) a man) b other

abbrev pub one_man : ℕ → ℕ → List ℕ
one_man a man = set (replicate 64 0) a man

abbrev pub move : ℕ → ℕ → ℕ
move source dest = source + 64 * dest

-- the record after a move, but for its counters
abbrev pub placed_after : BoardBuilder → ℕ → BoardBuilder
placed_after b m = uncounted (board_after b m)

pub record Rows : Type 0 where
  -- "piece moved": a white knight b1c3, and it takes what stands there
  pub moved : placed_after (board (one_man 1 2) 0 0 0 0) (move 1 18) ≡ board (one_man 18 2) 1 0 0 0
  pub takes : placed_after (board (two_men 1 2 18 7) 0 0 0 0) (move 1 18) ≡ board (one_man 18 2) 1 0 0 0
  -- "or promoted": a7a8=Q; whatever man moves: a black knight b1c3 with a promotion to a queen
  pub promoted : placed_after (board (one_man 48 1) 0 0 0 0) (move 48 56 + 4096 * 5) ≡ board (one_man 56 5) 1 0 0 0
  pub any_promoted : placed_after (board (one_man 1 8) 1 0 0 0) (move 1 18 + 4096 * 5) ≡ board (one_man 18 11) 0 0 0 0
  -- "rook in castling": e1g1 with the rook on h1, and e8c8 with the rook on a8
  pub castling : placed_after (board (two_men 4 6 7 4) 0 3 3 0) (move 4 6) ≡ board (two_men 6 6 5 4) 1 0 3 0
  pub queen_side : placed_after (board (two_men 60 12 56 10) 1 3 3 0) (move 60 58) ≡ board (two_men 58 12 59 10) 0 3 0 0
  -- "castling is a king going two files along its rank", any rank; "what stood in that side's corner of the rank goes to the square passed over": a
  -- knight of the other side from h4; an empty corner empties the square passed over
  pub anywhere : placed_after (board (two_men 28 6 31 8) 0 0 0 0) (move 28 30) ≡ board (two_men 30 6 29 8) 1 0 0 0
  pub no_rook : placed_after (board (two_men 60 12 59 8) 1 3 3 0) (move 60 58) ≡ board (one_man 58 12) 0 3 0 0
  -- a king one file along its rank does not castle, nor does another man two files
  pub one_file : placed_after (board (two_men 4 6 7 4) 0 0 0 0) (move 4 5) ≡ board (two_men 5 6 7 4) 1 0 0 0
  pub no_king : placed_after (board (two_men 4 5 7 4) 0 0 0 0) (move 4 6) ≡ board (two_men 6 5 7 4) 1 0 0 0
  -- "pawn removed in en passant": e5d6 with a pawn on d5; "a pawn changing files to an empty square, and clears the square on its old rank and new
  -- file", whatever stands there; where the new square is not empty nothing is cleared
  pub passing : placed_after (board (two_men 36 1 35 7) 0 0 0 4) (move 36 43) ≡ board (one_man 43 1) 1 0 0 0
  pub clears_any : placed_after (board (two_men 36 7 35 11) 1 0 0 0) (move 36 27) ≡ board (one_man 27 7) 0 0 0 0
  pub not_empty : placed_after (board (set (two_men 36 1 35 7) 43 8) 0 0 0 0) (move 36 43) ≡ board (two_men 43 1 35 7) 1 0 0 0
  -- "rights of both sides removed by source and by destination square": the rook of a1 takes that of a8
  pub rights : placed_after (board (two_men 0 4 56 10) 0 3 3 0) (move 0 56) ≡ board (one_man 56 4) 1 1 1 0
  -- "en passant file set only when a double pawn step (two ranks on one file) arrives beside an enemy pawn": e2e4 with a black pawn on d4 or f4, with
  -- none beside, with a white one; e2e3; a knight
  pub double : placed_after (board (two_men 12 1 27 7) 0 0 0 0) (move 12 28) ≡ board (two_men 28 1 27 7) 1 0 0 5
  pub double_behind : placed_after (board (two_men 12 1 29 7) 0 0 0 0) (move 12 28) ≡ board (two_men 28 1 29 7) 1 0 0 5
  pub alone : placed_after (board (two_men 12 1 26 7) 0 0 0 0) (move 12 28) ≡ board (two_men 28 1 26 7) 1 0 0 0
  pub own_pawn : placed_after (board (two_men 12 1 27 1) 0 0 0 0) (move 12 28) ≡ board (two_men 28 1 27 1) 1 0 0 0
  pub single : placed_after (board (two_men 12 1 19 7) 0 0 0 0) (move 12 20) ≡ board (two_men 20 1 19 7) 1 0 0 0
  pub no_pawn : placed_after (board (two_men 12 4 27 7) 0 0 0 0) (move 12 28) ≡ board (two_men 28 4 27 7) 1 0 0 0
  -- beside is on the same rank: a4 is not beside h3
  pub edge : placed_after (board (two_men 8 1 23 7) 0 0 0 0) (move 8 24) ≡ board (two_men 24 1 23 7) 1 0 0 0
  -- "who is set down last": a pawn that goes sideways clears its own new square first
  pub last : placed_after (board (one_man 28 1) 0 0 0 0) (move 28 29) ≡ board (one_man 29 1) 1 0 0 0
  -- "an empty source leaves both squares empty"; the side changes and rights go all the same
  pub empty : placed_after (board (one_man 18 8) 1 3 0 0) (move 0 18) ≡ board (replicate 64 0) 0 1 0 0

-- the counters after a move, given by source and destination and 4,096 * promotion, of a record with these squares and this side to move
abbrev pub counters_after : ℕ → ℕ → List ℕ → ℕ → ℕ → (half full : ℕ) → Type 0
counters_after half full squares side m half' full' =
    ((board_after (board_counted squares side 3 3 0 half full) m).half_moves ≡ half')
    × ((board_after (board_counted squares side 3 3 0 half full) m).full_moves ≡ full')

-- order 12, "by the PGN rule and stops at 9,999"
pub record CounterRows : Type 0 where
  -- a knight b1c3, by white and by black; by whoever's turn it is, whoever's man moves
  pub quiet : counters_after 3 7 (one_man 1 2) 0 (move 1 18) 4 7
  pub by_black : counters_after 3 7 (one_man 1 8) 1 (move 1 18) 4 8
  pub blacks_turn : counters_after 3 7 (one_man 1 2) 1 (move 1 18) 4 8
  pub whites_turn : counters_after 3 7 (one_man 1 8) 0 (move 1 18) 4 7
  -- onto a man, of either colour; a pawn e2e3, and e5d6 in passing
  pub capture : counters_after 3 7 (two_men 1 2 18 7) 0 (move 1 18) 0 7
  pub own_man : counters_after 3 7 (two_men 1 2 18 1) 0 (move 1 18) 0 7
  pub pawn_moves : counters_after 3 7 (one_man 12 1) 0 (move 12 20) 0 7
  pub in_passing : counters_after 3 7 (two_men 36 1 35 7) 0 (move 36 43) 0 7
  -- a promotion counts only by the pawn
  pub no_pawn_promoted : counters_after 3 7 (one_man 1 2) 0 (move 1 18 + 4096 * 5) 4 7
  -- castling, which takes a right; over a man on f1, who is no capture; and onto one on g1
  pub rights_leave_it : counters_after 3 7 (two_men 4 6 7 4) 0 (move 4 6) 4 7
  pub over_a_man : counters_after 3 7 (two_men 4 6 5 8) 0 (move 4 6) 4 7
  pub castling_onto : counters_after 3 7 (two_men 4 6 6 8) 0 (move 4 6) 0 7
  -- a man to his own square, where he stands; an empty source to an empty square, to itself and to a man
  pub own_square : counters_after 3 7 (one_man 1 2) 0 (move 1 1) 0 7
  pub nobody : counters_after 3 7 (one_man 1 2) 0 (move 0 18) 4 7
  pub nobody_stays : counters_after 3 7 (one_man 1 2) 0 (move 0 0) 4 7
  pub nobody_captures : counters_after 3 7 (one_man 18 8) 0 (move 0 18) 0 7
  -- at their last both stay, and the clock begins again all the same
  pub stops : counters_after 9999 9999 (one_man 1 8) 1 (move 1 18) 9999 9999
  pub begins_again : counters_after 9999 9999 (two_men 1 8 18 1) 1 (move 1 18) 0 9999

-- "a record number .. out of range" is 5, a counter too, before 6 for the move
pub record CountersRefused : Type 0 where
  pub clock : after_answer (with_counters empty_board 10000 1) 28672 ≡ stepped out_of_range (with_counters empty_board 10000 1)
  pub number : after_answer no_board 28672 ≡ stepped out_of_range no_board
  pub largest : (after_answer (with_counters empty_board 9999 9999) 28672).number ≡ bad_list
