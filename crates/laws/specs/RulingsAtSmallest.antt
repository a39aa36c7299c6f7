-- Rulings at their smallest: each number of a ruling, both claims at 99 and 100, and a game that is over.
-- Assumes nothing.
use Rattle.std.specs.Prelude.{◌≡◌, true, false, [], ◌∷◌, ◌++◌, ℕ, zero, suc, replicate}
use Rattle.square.specs.Piece.{king}
use Rattle.position.specs.Layout.{Position}
use Rattle.game_rules.specs.Rules.{make_move, resign, History, begun, after, claim_stands}
use Rattle.laws.specs.Laws.{laws_claim_stands}
use Rattle.laws.specs.Ruling.{ruled_on, not_ruled}

-- a king on a1, white's rights, and a list of one move
abbrev pub king_alone : ℕ → ℕ → Position
king_alone rights listed = record { board = king ∷ (replicate 63 0 ++ (0 ∷ rights ∷ 0 ∷ 0 ∷ [])); half = 0; full = 1; check = 0; moves = listed ∷ [] }

-- a right goes with the first of four moves; then one position stands four times
abbrev pub four_times : History
four_times =
    after (after (after (after (begun (king_alone 1 64)) (make_move 64 (king_alone 0 64))) (make_move 64 (king_alone 0 64)))
    (make_move 64 (king_alone 0 64))) (make_move 64 (king_alone 0 64))

-- that many moves of a king, no two positions equal, from a start with some rights
unfoldable pub wandered : ℕ → ℕ → History
wandered rights zero = begun (king_alone rights zero)
wandered rights (suc k) = after (wandered rights k) (make_move 64 (king_alone 0 (suc k)))

pub record RulingsAtSmallest : Type 0 where
  pub four_times_fact : ruled_on four_times
      ≡ record { number = 0; count = 3; laws_count = 4; equals = 3; first = 1; second = 2; claim = 2; laws_claim = 2 }
  pub over : ruled_on (after four_times (resign 0))
      ≡ record { number = 0; count = 3; laws_count = 4; equals = 3; first = 1; second = 2; claim = 0; laws_claim = 0 }
  pub refused_has_zeros : not_ruled 9 ≡ record { number = 9; count = 0; laws_count = 0; equals = 0; first = 0; second = 0; claim = 0; laws_claim = 0 }
  pub at_99 : claim_stands (wandered 0 99) ≡ false
  pub at_100 : claim_stands (wandered 0 100) ≡ true
  pub laws_at_99 : laws_claim_stands (wandered 1 99) ≡ false
  pub laws_at_100 : laws_claim_stands (wandered 1 100) ≡ true
  pub laws_alone : claim_stands (wandered 1 100) ≡ false
  pub by_count : (ruled_on (wandered 1 100)).laws_claim ≡ 1
