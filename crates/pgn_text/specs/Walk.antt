-- The walk over move text (document 02, order 8): one recursion over the text, with the offsets of the open brackets, the innermost first. The check and
-- the next move from a place are read off it.
-- Assumes nothing.
use Rattle.std.specs.Prelude.{ℕ, zero, suc, ◌+◌, cond, List, [], ◌∷◌, eqb, ltb, length, take, drop, replicate}
use Rattle.answer.specs.Answer.{left_open, too_deep, unknown_token}
use Rattle.pgn_text.specs.declared.Token.{Token}
use Rattle.pgn_text.specs.declared.Token.TheVariants.{Passed, Move, Opening, Closing, Result, LeftOpen, Unknown}
use Rattle.pgn_text.specs.declared.PgnCount.{PgnCount}
use Rattle.pgn_text.specs.declared.PgnMove.{PgnMove}
use Rattle.pgn_text.specs.Token.{token}

-- down to 8 levels
abbrev pub deepest : ℕ
deepest = 8

-- what is met, in text order: moves, each with its start, its length and its level, and then the end with its answer number and offset
pub data Walk : Type 0 where
  found : ℕ → ℕ → ℕ → Walk → Walk
  ended : ℕ → ℕ → Walk

-- the end of the text: 21 for the innermost bracket that is left open
unfoldable pub at_end : List ℕ → Walk
at_end [] = ended 0 0
at_end (o ∷ os) = ended left_open o

-- one token at an offset; `go n os` is the walk over what follows the token's first byte, n bytes passed over, with os open.
-- An opening bracket: one level down, or 22. A closing bracket: one level up, or 23. A result outside brackets ends the walk, in brackets it is 23.
-- A comment left open is itself the innermost.
unfoldable pub met : Token → ℕ → List ℕ → (ℕ → List ℕ → Walk) → Walk
met (Passed n) at os go = go n os
met (Move n) at os go = found at (n + 1) (length os) (go n os)
met Opening at os go = cond (ltb (length os) deepest) (go 0 (at ∷ os)) (ended too_deep at)
met Closing at [] go = ended unknown_token at
met Closing at (o ∷ os) go = go 0 os
met Result at [] go = ended 0 0
met Result at (o ∷ os) go = ended unknown_token at
met LeftOpen at os go = ended left_open at
met Unknown at os go = ended unknown_token at

-- the walk over a text that stands at an offset, its first n bytes passed over
unfoldable pub walk : ℕ → ℕ → List ℕ → List ℕ → Walk
walk n at os [] = at_end os
walk zero at os (b ∷ bs) = met (token b bs) at os (λ n os'. walk n (at + 1) os' bs)
walk (suc n) at os (b ∷ bs) = walk n (at + 1) os bs

-- from a place, as if the text began there at that level: each bracket opened before the place counts as opened there. 22 for the place's own level
-- first, then 23 for an offset past the text
unfoldable pub walk_from : List ℕ → ℕ → ℕ → Walk
walk_from text offset level =
    cond (ltb deepest level) (ended too_deep offset)
    (cond (ltb (length text) offset) (ended unknown_token offset)
    (walk 0 offset (replicate level offset) (drop offset text)))

-- ---- what is read off a walk

-- the end of a walk on which n moves were counted; a refused check has none
unfoldable pub end_count : ℕ → ℕ → ℕ → PgnCount
end_count n number offset = record { number = number; offset = offset; moves = cond (eqb number 0) n 0 }

-- all moves counted, n so far
unfoldable pub counted : ℕ → Walk → PgnCount
counted n (ended number offset) = end_count n number offset
counted n (found start size level w) = counted (n + 1) w

-- no move: none is left, or a refusal
unfoldable pub no_move_found : ℕ → ℕ → PgnMove
no_move_found number offset = record { number = number; offset = offset; found = 0; start = 0; length = 0; level = 0 }

-- a move, by the part of the text that holds it and its level
unfoldable pub move_found : ℕ → ℕ → ℕ → PgnMove
move_found start size level = record { number = 0; offset = 0; found = 1; start = start; length = size; level = level }

-- the first move, or the end
unfoldable pub first_move : Walk → PgnMove
first_move (ended number offset) = no_move_found number offset
first_move (found start size level w) = move_found start size level

-- the first call: the whole text checked, and its moves counted
unfoldable pub check : List ℕ → PgnCount
check text = counted 0 (walk_from text 0 0)

-- the call from a place: the next move, or that none is left
unfoldable pub next_move : List ℕ → ℕ → ℕ → PgnMove
next_move text offset level = first_move (walk_from text offset level)

-- the very part of the text that holds a move
unfoldable pub part : List ℕ → ℕ → ℕ → List ℕ
part text start size = take size (drop start text)
