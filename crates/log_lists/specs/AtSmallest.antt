-- One list of a game in another order than the others: an empty board whose side to move changes, each position with the moves 0 and 1 (a1a1 and b1a1).
-- Assumes nothing.
use Rattle.std.specs.Prelude.{ℕ, ◌≡◌, true, false, List, [], ◌∷◌, ◌++◌, replicate, get_or}
use Rattle.position.specs.Layout.{Position}
use Rattle.position.specs.Repeats.{equal}
use Rattle.game_rules.specs.Rules.{make_move, offer_draw, accept_draw, declare_draw, resign, History, begun, after, claim_stands}
use Rattle.laws.specs.Laws.{laws_claim_stands}
use Rattle.log_lists.specs.Relisted.{Host, listed, game_of}

-- the side to move, and the list
abbrev pub place : ℕ → List ℕ → Position
place side list = record { board = replicate 64 0 ++ (side ∷ 0 ∷ 0 ∷ 0 ∷ []); half = 0; full = 1; check = 0; moves = list }

abbrev pub as_before : List ℕ
as_before = 0 ∷ 1 ∷ []

abbrev pub turned : List ℕ
turned = 1 ∷ 0 ∷ []

-- four moves, so that the start's record comes back twice, the last time with this list
abbrev pub four_moves : List ℕ → History
four_moves last =
    after
    (after (after (after (begun (place 0 as_before)) (make_move 0 (place 1 as_before))) (make_move 0 (place 0 as_before))) (make_move 0 (place 1 as_before)))
    (make_move 0 (place 0 last))

pub record AtSmallest : Type 0 where
  pub unequal : equal (place 0 as_before) (place 0 turned) ≡ false
  pub claim : claim_stands (four_moves as_before) ≡ true
  pub no_claim : claim_stands (four_moves turned) ≡ false
  pub laws_claim : laws_claim_stands (four_moves as_before) ≡ true
  pub no_laws_claim : laws_claim_stands (four_moves turned) ≡ false

-- a host that lists the man on a1 and 7, whatever else stands in a record
abbrev pub by_a1 : Host
by_a1 board = get_or board 0 0 ∷ 7 ∷ []

-- a man on a1, and a list; in move 5 with 3 half-moves made, in check
abbrev pub man_on_a1 : ℕ → List ℕ → Position
man_on_a1 man list = record { board = man ∷ replicate 67 0; half = 3; full = 5; check = 1; moves = list }

-- a position with the host's list keeps all else; in a game every position gets it, the start too, and the other calls stay as they are
pub record RelistedAtSmallest : Type 0 where
  pub position : listed by_a1 (man_on_a1 2 (9 ∷ [])) ≡ record { board = 2 ∷ replicate 67 0; half = 3; full = 5; check = 1; moves = 2 ∷ 7 ∷ [] }
  pub moved : game_of by_a1 (after (begun (man_on_a1 2 [])) (make_move 9 (man_on_a1 4 [])))
      ≡ after (begun (man_on_a1 2 (2 ∷ 7 ∷ []))) (make_move 9 (man_on_a1 4 (4 ∷ 7 ∷ [])))
  pub others : game_of by_a1 (after (after (after (after (begun (man_on_a1 2 [])) (offer_draw 1)) accept_draw) declare_draw) (resign 1))
      ≡ after (after (after (after (begun (man_on_a1 2 (2 ∷ 7 ∷ []))) (offer_draw 1)) accept_draw) declare_draw) (resign 1)
