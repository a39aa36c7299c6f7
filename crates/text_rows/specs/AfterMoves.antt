-- The board after a move (document 02, orders 9 and 12) where a test of equality could be one of order: what goes three files or to another rank, an empty
-- source, files to the right as to the left, a man who is no pawn beside a double step. And whether a stored record and its counters come after a move.
-- Assumes nothing.
use Rattle.std.specs.Prelude.{ℕ, ◌≡◌, true, false, List, [], ◌∷◌, ◌++◌, take, replicate}
use Rattle.move_rules.specs.Leads.{comes_from, leads_to, leads_to_board, counters_from, counters_lead}
use Rattle.move_rules.specs.Promises.{taken_square, named}
use Rattle.key_after.specs.AtSmallest.{After}
use Rattle.number_rows.specs.Records.{a_man, seventy}

pub record MovesAtTheEdge : Type 0 where
  -- "a king going two files along its rank": not three, to either side, nor to a rank below
  pub three_right : After "8/8/8/8/8/8/8/K6R w - -" "a1d1" "8/8/8/8/8/8/8/3K3R b - - 0 1"
  pub three_left : After "8/8/8/8/8/8/8/R6K w - -" "h1e1" "8/8/8/8/8/8/8/R3K3 b - - 0 1"
  pub rank_below : After "8/8/8/8/8/8/R3K2R/8 w - -" "e2g1" "8/8/8/8/8/8/R6R/6K1 b - - 0 1"
  -- "en passant is a pawn changing files": to the right too, and an empty source takes nothing
  pub passing_right : After "8/8/8/4Pp2/8/8/8/8 w - f6" "e5f6" "8/8/5P2/8/8/8/8/8 b - - 0 1"
  pub from_file_b : After "8/8/8/1Pp5/8/8/8/8 w - c6" "b5c6" "8/8/2P5/8/8/8/8/8 b - - 0 1"
  pub nobody_passes : After "8/8/8/8/8/8/8/1N6 w - -" "a1b2" "8/8/8/8/8/8/8/1N6 b - - 0 1"
  -- "a double pawn step (two ranks on one file)": not three ranks, not one file to the right, not by nobody
  pub three_ranks : After "8/8/8/3p4/8/8/4P3/8 w - -" "e2e5" "8/8/8/3pP3/8/8/8/8 b - - 0 1"
  pub right_file : After "8/8/8/8/6p1/8/4P3/8 w - -" "e2f4" "8/8/8/8/5Pp1/8/8/8 b - - 0 1"
  pub nobody_steps : After "8/8/8/8/3p4/8/8/8 w - -" "e2e4" "8/8/8/8/3p4/8/8/8 b - - 0 1"
  -- "beside an enemy pawn": not beside a knight, on either side
  pub knight_before : After "8/8/8/8/3n4/8/4P3/8 w - -" "e2e4" "8/8/8/8/3nP3/8/8/8 b - - 0 1"
  pub knight_behind : After "8/8/8/8/5n2/8/4P3/8 w - -" "e2e4" "8/8/8/8/4Pn2/8/8/8 b - - 0 1"
  pub white_knight_behind : After "8/4p3/8/5N2/8/8/8/8 b - -" "e7e5" "8/8/8/4pN2/8/8/8/8 w - - 0 1"

-- the squares that the rules name: in e1g1 by a king, h1 and f1 too; in e5d6 by a pawn, d5 too; in b1c3 by a knight, none
pub record SquaresNamed : Type 0 where
  pub castling : named (a_man 4 6) 4 6 ≡ 4 ∷ 6 ∷ 7 ∷ 5 ∷ []
  pub in_passing : named (a_man 36 1) 36 43 ≡ 36 ∷ 43 ∷ 35 ∷ []
  pub knight : named (a_man 1 2) 1 18 ≡ 1 ∷ 18 ∷ []
  pub taken : taken_square 36 43 ≡ 35

-- a knight on b1, or on c3, as 68 numbers: white to move, or black, with white's and black's rights and a file
abbrev pub knight_on : ℕ → ℕ → ℕ → ℕ → ℕ → List ℕ
knight_on square side white black file = a_man square 2 ++ (side ∷ white ∷ black ∷ file ∷ [])

-- b1c3 is 1 + 64 × 18 = 1,153
pub record RecordsThatFollow : Type 0 where
  pub follows : comes_from (knight_on 1 0 1 2 4) 1153 (knight_on 18 1 1 2 0) ≡ true
  pub other_rights : comes_from (knight_on 1 0 1 2 4) 1153 (knight_on 18 1 1 3 0) ≡ false
  pub longer : comes_from (knight_on 1 0 1 2 4 ++ (9 ∷ [])) 1153 (knight_on 18 1 1 2 0) ≡ true
  pub led : leads_to (knight_on 1 0 1 2 4) 1153 (knight_on 18 1 1 2 0) ≡ true
  pub led_longer : leads_to (knight_on 1 0 1 2 4) 1153 (knight_on 18 1 1 2 0 ++ (9 ∷ [])) ≡ true
  pub led_to_board : leads_to_board (knight_on 1 0 1 2 4) 1153 (seventy (a_man 18 2) 1 1 2 0 4 7) ≡ true
  pub short : comes_from (take 67 (knight_on 1 0 1 2 4)) 1153 (knight_on 18 1 1 2 0) ≡ false
  -- from 3 half-moves and move 7, by white and by black
  pub white : counters_from (knight_on 1 0 1 2 4) 1153 3 7 4 7 ≡ true
  pub black : counters_from (knight_on 1 1 1 2 4) 1153 3 7 4 8 ≡ true
  pub no_side_lem : counters_from (a_man 1 2) 1153 3 7 4 7 ≡ true
  -- a pawn e2e3, 12 + 64 × 20 = 1,292, and a man on c3
  pub by_pawn : counters_from (a_man 12 1 ++ (0 ∷ 1 ∷ 2 ∷ 4 ∷ [])) 1292 3 7 0 7 ≡ true
  pub onto_a_man : counters_from ((0 ∷ 2 ∷ replicate 16 0) ++ (7 ∷ replicate 45 0)) 1153 3 7 0 7 ≡ true
  pub half_under : counters_from (knight_on 1 0 1 2 4) 1153 3 7 3 7 ≡ false
  pub half_over : counters_from (knight_on 1 0 1 2 4) 1153 3 7 5 7 ≡ false
  pub full_under : counters_from (knight_on 1 0 1 2 4) 1153 3 7 4 6 ≡ false
  pub full_over : counters_from (knight_on 1 0 1 2 4) 1153 3 7 4 8 ≡ false
  pub leads : counters_lead (knight_on 1 1 1 2 4) 1153 3 7 4 8 ≡ true
  pub leads_by_pawn : counters_lead (a_man 12 1 ++ (0 ∷ 1 ∷ 2 ∷ 4 ∷ [])) 1292 3 7 0 7 ≡ true
  pub leads_not : counters_lead (knight_on 1 1 1 2 4) 1153 3 7 4 7 ≡ false
  pub leads_longer : counters_lead (knight_on 1 1 1 2 4 ++ (9 ∷ [])) 1153 3 7 4 8 ≡ true
  pub leads_short : counters_lead (take 67 (knight_on 1 1 1 2 4)) 1153 3 7 4 8 ≡ false
