-- The brackets between a place and the next move: how many levels are left, and how many are then entered. It is read off the tokens, whatever the level of the
-- place is; a variation that has no move in it leaves no trace.
-- Assumes nothing.
use Rattle.std.specs.Prelude.{ℕ, zero, suc, ◌+◌, ◌-◌, ◌≤◌, ◌≡◌, cond, List, [], ◌∷◌, eqb, drop}
use Prim.Native.String.{String}
use Rattle.answer.specs.Ascii.{ascii}
use Rattle.pgn_text.specs.declared.Token.{Token}
use Rattle.pgn_text.specs.declared.Token.TheVariants.{Passed, Move, Opening, Closing, Result, LeftOpen, Unknown}
use Rattle.pgn_text.specs.declared.PgnMove.{PgnMove}
use Rattle.pgn_text.specs.declared.Crossed.{Crossed}
use Rattle.pgn_text.specs.declared.PgnNext.{PgnNext}
use Rattle.pgn_text.specs.Token.{token}
use Rattle.pgn_text.specs.Walk.{next_move, move_found, no_move_found}

abbrev pub crossing : ℕ → ℕ → Crossed
crossing closed opened = record { closed = closed; opened = opened }

-- one token, with so many closed and opened before it. A closing bracket closes the one opened last, if one was opened behind the place
unfoldable pub cross_met : Token → ℕ → ℕ → (ℕ → ℕ → ℕ → Crossed) → Crossed
cross_met (Passed n) c o go = go n c o
cross_met (Move n) c o go = crossing c o
cross_met Opening c o go = go 0 c (o + 1)
cross_met Closing c o go = cond (eqb o 0) (go 0 (c + 1) 0) (go 0 c (o - 1))
cross_met Result c o go = crossing 0 0
cross_met LeftOpen c o go = crossing 0 0
cross_met Unknown c o go = crossing 0 0

-- a text, its first n bytes passed over; where no move comes, none and none
unfoldable pub cross : ℕ → ℕ → ℕ → List ℕ → Crossed
cross n c o [] = crossing 0 0
cross zero c o (b ∷ bs) = cross_met (token b bs) c o (λ n c' o'. cross n c' o' bs)
cross (suc n) c o (b ∷ bs) = cross n c o bs

unfoldable pub crossed_from : List ℕ → ℕ → Crossed
crossed_from text offset = cross 0 0 0 (drop offset text)

-- the next move from a place with what is crossed before it; without a move nothing is
abbrev pub across_to : PgnMove → Crossed → PgnNext
across_to m x =
    record {
      number = m.number;
      offset = m.offset;
      found = m.found;
      start = m.start;
      length = m.length;
      level = m.level;
      closed = x.closed;
      opened = x.opened;
    }

unfoldable pub across_with : PgnMove → Crossed → PgnNext
across_with m x = cond (eqb m.found 0) (across_to m (crossing 0 0)) (across_to m x)

unfoldable pub next_across : List ℕ → ℕ → ℕ → PgnNext
next_across text offset level = across_with (next_move text offset level) (crossed_from text offset)

-- where a move is found from a place, no more levels are left than the place has, and leaving and entering them leads to the level of the move
pub record LevelsCrossed (text : List ℕ) (offset level at_level : ℕ) : Type 0 where
  pub left : (crossed_from text offset).closed ≤ level
  pub entered : at_level + (crossed_from text offset).closed ≡ level + (crossed_from text offset).opened

abbrev pub CrossedLeadsToTheMove : Type 0
CrossedLeadsToTheMove =
    (text : List ℕ) (offset level start size at_level : ℕ) → next_move text offset level ≡ move_found start size at_level → LevelsCrossed text offset level
    at_level

-- and it is found from a lower level too, if that has as many as are left: so the least level from which it is found is the number of those left
abbrev pub FoundFromLower : Type 0
FoundFromLower =
    (text : List ℕ) (offset level lower : ℕ) → (next_move text offset level).found ≡ 1 → lower ≤ level → (crossed_from text offset).closed ≤ lower
    → (next_move text offset lower).found ≡ 1

-- ---- at its smallest
abbrev pub Crosses : String → ℕ → ℕ → ℕ → Type 0
Crosses text offset closed opened = crossed_from (ascii text) offset ≡ crossing closed opened

pub record BetweenAtSmallest : Type 0 where
  -- two games that have the same moves at the same places and levels: two variations in one, one longer one in the other
  pub two : (Crosses "e4 (d4 d5) (c4 e5) e5" 2 0 1) × (Crosses "e4 (d4 d5) (c4 e5) e5" 9 1 1) × (Crosses "e4 (d4 d5) (c4 e5) e5" 17 1 0)
  pub one : (Crosses "e4 (d4 d5  c4 e5) e5" 2 0 1) × (Crosses "e4 (d4 d5  c4 e5) e5" 9 0 0) × (Crosses "e4 (d4 d5  c4 e5) e5" 16 1 0)
  -- comments hide brackets; an empty variation leaves no trace; several levels at once
  pub hidden : (Crosses "e4 {(} ;)" 2 0 0) × (Crosses "e4 {)} e5" 2 0 0) × (Crosses "e4 () e5" 2 0 0) × (Crosses "e4 ((d4" 2 0 2) × (Crosses "e4)) (e5" 2 2 1)
  -- both in one answer; a place too deep, and a bracket that is too deep, have none
  pub across : next_across (ascii "e4 (d4 d5) (c4 e5) e5") 9 1 ≡ across_to (move_found 12 2 1) (crossing 1 1)
  pub too_deep_fact : next_across (ascii "((e4") 0 7 ≡ across_to (no_move_found 22 1) (crossing 0 0)
  pub stray : next_across (ascii ") e4") 0 0 ≡ across_to (no_move_found 23 0) (crossing 0 0)
  -- no move comes
  pub none : (Crosses "e4 )" 2 0 0) × (Crosses "e4 ) 1-0" 2 0 0) × (Crosses "e4" 5 0 0)
