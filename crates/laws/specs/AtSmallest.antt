-- Both counts and the run at their smallest: a king's move that loses a right, and one after it; then a pawn's move, and a capture. And the counters of the
-- positions beside them.
-- Assumes nothing.
use Rattle.std.specs.Prelude.{◌≡◌, [], ◌∷◌, ◌++◌, ℕ, length, replicate}
use Rattle.square.specs.Piece.{king, pawn}
use Rattle.position.specs.Layout.{Position}
use Rattle.game_rules.specs.Rules.{make_move, offer_draw, History, begun, after, ruling}
use Rattle.laws.specs.Laws.{laws_count}
use Rattle.laws.specs.Clock.{clock_of, full_of}

-- a man on a1, another on b1, and white's rights
abbrev pub on_a1_and_b1 : ℕ → ℕ → ℕ → Position
on_a1_and_b1 a1 b1 rights = record { board = a1 ∷ b1 ∷ (replicate 62 0 ++ (0 ∷ rights ∷ 0 ∷ 0 ∷ [])); half = 0; full = 1; check = 0; moves = [] }

-- from a1 to b1
abbrev pub a1b1 : ℕ
a1b1 = 64

-- a king's move with which a right goes, then another
abbrev pub loses_aright : History
loses_aright = after (after (begun (on_a1_and_b1 king 0 1)) (make_move a1b1 (on_a1_and_b1 king 0 0))) (make_move a1b1 (on_a1_and_b1 king 0 0))

pub record CountsAtSmallest : Type 0 where
  pub none_made : laws_count (begun (on_a1_and_b1 king 0 0)) ≡ 0
  -- the Laws' count goes on, the crate's and the run begin again
  pub laws_go_on : laws_count loses_aright ≡ 2
  pub crate_restarts : (ruling loses_aright).count ≡ 1
  pub run_restarts : length (ruling loses_aright).run ≡ 2
  -- a pawn's move and a capture empty the Laws' count too, and an offer is no move
  pub by_a_pawn : laws_count (after loses_aright (make_move a1b1 (on_a1_and_b1 pawn 0 0))) ≡ 3
  pub after_a_pawn : laws_count (after (after loses_aright (make_move a1b1 (on_a1_and_b1 pawn 0 0))) (make_move a1b1 (on_a1_and_b1 king pawn 0))) ≡ 0
  pub by_a_capture : laws_count (after (after loses_aright (make_move a1b1 (on_a1_and_b1 king pawn 0))) (make_move a1b1 (on_a1_and_b1 king 0 0))) ≡ 0
  pub offer_is_none : laws_count (after loses_aright (offer_draw 0)) ≡ 2

-- a king on a1, a man on b1, the side to move, and the counters
abbrev pub counting : ℕ → ℕ → ℕ → ℕ → Position
counting b1 colour half full =
    record { board = king ∷ b1 ∷ (replicate 62 0 ++ (colour ∷ 0 ∷ 0 ∷ 0 ∷ [])); half = half; full = full; check = 0; moves = [] }

-- the king goes to b1, after a start; and then back
abbrev pub goes_from : Position → History
goes_from p = after (begun p) (make_move a1b1 (on_a1_and_b1 0 king 0))

abbrev pub goes_back_from : Position → History
goes_back_from p = after (goes_from p) (make_move 1 (on_a1_and_b1 king 0 0))

pub record CountersAtSmallest : Type 0 where
  -- the start's clock, which a quiet move runs on, though a right goes with it
  pub begins : clock_of (begun (counting 0 0 7 1)) ≡ 7
  pub runs_on : clock_of (goes_from (counting 0 0 7 1)) ≡ 8
  pub rights_leave_it : clock_of loses_aright ≡ 2
  -- a capture ends it, and a quiet move begins it again
  pub captured : clock_of (goes_from (counting pawn 0 7 1)) ≡ 0
  pub after_a_capture : clock_of (goes_back_from (counting pawn 0 7 1)) ≡ 1
  -- an offer is no move
  pub offered : clock_of (after (goes_from (counting 0 0 7 1)) (offer_draw 0)) ≡ 8
  -- the move number after white's move, and after black's
  pub by_white : full_of (goes_from (counting 0 0 7 40)) ≡ 40
  pub by_black : full_of (goes_from (counting 0 1 7 40)) ≡ 41
  pub by_both : full_of (goes_back_from (counting 0 0 7 40)) ≡ 41
  -- both stop
  pub clock_stops : clock_of (goes_from (counting 0 0 9999 1)) ≡ 9999
  pub number_stops : full_of (goes_from (counting 0 1 7 9999)) ≡ 9999
