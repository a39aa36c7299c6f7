-- The rule at its smallest: boards with one man or two.
-- Assumes nothing.
use Rattle.std.specs.Prelude.{◌≡◌, List, ℕ, replicate}
use Rattle.answer.specs.Answer.{out_of_range}
use Rattle.board_builder.specs.BoardBuilder.{board, board_counted, with_counters, empty_board, no_board}
use Rattle.board_builder.specs.Steps.{stepped}
use Rattle.move_rules.specs.AtSmallest.{two_men, one_man, move}
use Rattle.move_rules.specs.After.{board_after}
use Rattle.settled_rules.specs.Settled.{settled, settled_answer}

-- a record with no rights, of these squares, side and file, settles to one of the other file
abbrev pub SettlesTo : List ℕ → ℕ → ℕ → ℕ → Type 0
SettlesTo squares side file new = settled (board squares side 0 0 file) ≡ board squares side 0 0 new

pub record Rows : Type 0 where
  -- "cleared": white to move and a black pawn on d5, black to move and a white pawn on e4, with nothing beside
  pub alone : (SettlesTo (one_man 35 7) 0 4 0) × (SettlesTo (one_man 28 1) 1 5 0)
  -- a pawn on the wrong rank: on c4 and c6, with the one that moved on d5; on d5 and d3, with that on e4
  pub wrong_rank : (SettlesTo (two_men 35 7 26 1) 0 4 0) × (SettlesTo (two_men 35 7 42 1) 0 4 0)
  pub blacks_wrong_rank : (SettlesTo (two_men 28 1 35 7) 1 5 0) × (SettlesTo (two_men 28 1 19 7) 1 5 0)
  -- a pawn of the wrong colour beside; a king; a pawn two files away
  pub wrong_colour : (SettlesTo (two_men 35 7 34 7) 0 4 0) × (SettlesTo (two_men 28 1 27 1) 1 5 0)
  pub king : (SettlesTo (two_men 35 7 34 6) 0 4 0) × (SettlesTo (two_men 28 1 27 12) 1 5 0)
  pub two_away : (SettlesTo (two_men 35 7 33 1) 0 4 0) × (SettlesTo (two_men 28 1 30 7) 1 5 0)
  -- "unless a pawn of the side to move stands beside": a white one on c5 or e5, a black one on d4 or f4
  pub white : (SettlesTo (two_men 35 7 34 1) 0 4 4) × (SettlesTo (two_men 35 7 36 1) 0 4 4)
  pub black : (SettlesTo (two_men 28 1 27 7) 1 5 5) × (SettlesTo (two_men 28 1 29 7) 1 5 5)
  -- file a has one neighbour: b5 is beside a5, and neither h4, the square before it, nor h5; b4 is beside a4, and neither h3 nor h4
  pub file_a : (SettlesTo (two_men 32 7 33 1) 0 1 1) × (SettlesTo (two_men 32 7 31 1) 0 1 0) × (SettlesTo (two_men 32 7 39 1) 0 1 0)
  pub blacks_file_a : (SettlesTo (two_men 24 1 25 7) 1 1 1) × (SettlesTo (two_men 24 1 23 7) 1 1 0) × (SettlesTo (two_men 24 1 31 7) 1 1 0)
  -- and so has file h: g5 is beside h5, and neither a6, the square behind it, nor a5; g4 is beside h4, and neither a5 nor a4
  pub file_h : (SettlesTo (two_men 39 7 38 1) 0 8 8) × (SettlesTo (two_men 39 7 40 1) 0 8 0) × (SettlesTo (two_men 39 7 32 1) 0 8 0)
  pub blacks_file_h : (SettlesTo (two_men 31 1 30 7) 1 8 8) × (SettlesTo (two_men 31 1 32 7) 1 8 0) × (SettlesTo (two_men 31 1 24 7) 1 8 0)
  -- no file stays none, whatever stands beside file a
  pub none : (SettlesTo (two_men 32 7 33 1) 0 0 0) × (SettlesTo (one_man 25 7) 1 0 0)
  -- the pawn that moved is not looked for, nor are the squares behind it: the crate refuses such a record elsewhere
  pub not_there : (SettlesTo (one_man 34 1) 0 4 4) × (SettlesTo (two_men 34 1 43 2) 0 4 4)
  -- every other number stays, the counters too
  pub others : settled (board_counted (one_man 28 1) 1 3 2 5 12 34) ≡ board_counted (one_man 28 1) 1 3 2 0 12 34
  pub others_kept : settled (board_counted (two_men 28 1 29 7) 1 2 1 5 9999 9999) ≡ board_counted (two_men 28 1 29 7) 1 2 1 5 9999 9999
  -- a move that chess does not have may leave a record that is not settled: a white pawn e4e6 beside a black one on d6
  pub unsettled : board_after (board (two_men 28 1 43 7) 0 0 0 0) (move 28 44) ≡ board (two_men 44 1 43 7) 1 0 0 5
  pub unsettled_file : settled (board_after (board (two_men 28 1 43 7) 0 0 0 0) (move 28 44)) ≡ board (two_men 44 1 43 7) 1 0 0 0

-- the call: 5 for a number out of range, a counter too, and the record handed back as it was; otherwise 0
pub record CallRows : Type 0 where
  pub file_nine : settled_answer (board (replicate 64 0) 0 0 0 9) ≡ stepped out_of_range (board (replicate 64 0) 0 0 0 9)
  pub no_record : settled_answer no_board ≡ stepped out_of_range no_board
  pub clock : settled_answer (with_counters empty_board 10000 1) ≡ stepped out_of_range (with_counters empty_board 10000 1)
  pub cleared : settled_answer (board_counted (one_man 28 1) 1 3 2 5 12 34) ≡ stepped 0 (board_counted (one_man 28 1) 1 3 2 0 12 34)
