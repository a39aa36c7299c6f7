-- What the order promises about moves taken one by one, for any check and any call for the next move, so that a wrong one can be tried on it.
-- Assumes nothing.
use Rattle.std.specs.Prelude.{ℕ, zero, suc, ◌+◌, ◌≤◌, ◌<◌, ◌≡◌, true, false, List, [], ◌∷◌, ◌++◌, length, take, drop, get_or}
use Rattle.answer.specs.Answer.{left_open, too_deep, unknown_token}
use Rattle.pgn_text.specs.declared.Run.TheVariants.{MoveBytes}
use Rattle.pgn_text.specs.declared.PgnCount.{PgnCount}
use Rattle.pgn_text.specs.declared.PgnMove.{PgnMove}
use Rattle.pgn_text.specs.Bytes.{starts_move, in_move, run_length}
use Rattle.pgn_text.specs.Walk.{Walk, found, ended, walk_from, no_move_found, move_found, deepest}

abbrev pub Check : Type 0
Check = List ℕ → PgnCount

abbrev pub Next : Type 0
Next = List ℕ → ℕ → ℕ → PgnMove

-- ---- from place to place

-- n + 1 answers in a row from a place, each but the first from where the one before ended, at its level
unfoldable pub walked : Next → List ℕ → ℕ → ℕ → ℕ → List PgnMove
walked next text zero offset level = next text offset level ∷ []
walked next text (suc n) offset level =
    let m = next text offset level in
    m ∷ walked next text n (m.start + m.length) m.level

-- the moves of a walk, in text order
unfoldable pub moves_of : Walk → List PgnMove
moves_of (ended number offset) = []
moves_of (found start size level w) = move_found start size level ∷ moves_of w

-- how a walk ends: the answer number, and the offset that goes with it
unfoldable pub end_number : Walk → ℕ
end_number (ended number offset) = number
end_number (found start size level w) = end_number w

unfoldable pub end_offset : Walk → ℕ
end_offset (ended number offset) = offset
end_offset (found start size level w) = end_offset w

-- the check's number and offset are those of the walk's end
abbrev pub ChecksTheWalk : Check → Type 0
ChecksTheWalk check = (text : List ℕ) → ((check text).number ≡ end_number (walk_from text 0 0)) × ((check text).offset ≡ end_offset (walk_from text 0 0))

-- for a text that the check accepts: the check has counted the moves that there are, and walking from the start gives exactly them, in text order, and
-- then that none is left
pub record WalkedAsCounted (check : Check) (next : Next) (text : List ℕ) : Type 0 where
  pub counted : (check text).moves ≡ length (moves_of (walk_from text 0 0))
  pub walked_through : walked next text (check text).moves 0 0 ≡ moves_of (walk_from text 0 0) ++ (no_move_found 0 0 ∷ [])

abbrev pub WalkingGivesTheMoves : Check → Next → Type 0
WalkingGivesTheMoves check next = (text : List ℕ) → (check text).number ≡ 0 → WalkedAsCounted check next text

-- ---- one move

-- two walks meet the same moves and end alike; only where a bracket is left open may its offset differ
pub data WalksAlike : Walk → Walk → Type 0 where
  same_end : {number offset : ℕ} → WalksAlike (ended number offset) (ended number offset)
  open_end : {offset other : ℕ} → WalksAlike (ended left_open offset) (ended left_open other)
  same_move : {start size level : ℕ} {v w : Walk} → WalksAlike v w → WalksAlike (found start size level v) (found start size level w)

-- a move that is found from a place: a part of the text, from the place on, at a level of 0 to 8; it starts as a move does, runs on over bytes of a move
-- and is as long as can be; and what follows it is what the walk from its end, at its level, meets
pub record FoundFrom (text : List ℕ) (offset start size level : ℕ) (w : Walk) : Type 0 where
  pub forth : offset ≤ start
  pub some : 0 < size
  pub within : start + size ≤ length text
  pub shallow : level ≤ deepest
  pub starts : starts_move (get_or text start 0) ≡ true
  pub runs_on : (i : ℕ) → start < i → i < start + size → in_move (get_or text i 0) ≡ true
  pub longest : start + size < length text → in_move (get_or text (start + size) 0) ≡ false
  pub behind : WalksAlike w (walk_from text (start + size) level)

abbrev pub MovesInTextOrder : Type 0
MovesInTextOrder =
    (text : List ℕ) (offset level start size at_level : ℕ) (w : Walk)
    → walk_from text offset level ≡ found start size at_level w → FoundFrom text offset start size at_level w

-- nothing past the end of its move is looked at: any other text that has the same bytes up to there, and in which the move does not run on, gives the
-- same answer
abbrev pub LooksNoFurther : Next → Type 0
LooksNoFurther next =
    (text other : List ℕ) (offset level start size at_level : ℕ)
    → next text offset level ≡ move_found start size at_level
    → take (start + size) other ≡ take (start + size) text
    → run_length MoveBytes (drop (start + size) other) ≡ 0
    → next other offset level ≡ move_found start size at_level

-- ---- refusals

-- an answer is 0 with the offset 0, or one of the three refusals
pub data PossibleAnswer : ℕ → ℕ → Type 0 where
  accepted : PossibleAnswer 0 0
  left_open_fact : {offset : ℕ} → PossibleAnswer left_open offset
  too_deep_fact : {offset : ℕ} → PossibleAnswer too_deep offset
  unknown_token_fact : {offset : ℕ} → PossibleAnswer unknown_token offset

abbrev pub ThreeRefusals : Check → Next → Type 0
ThreeRefusals check next =
    ((text : List ℕ) → PossibleAnswer (check text).number (check text).offset)
    × ((text : List ℕ) (offset level : ℕ) → PossibleAnswer (next text offset level).number (next text offset level).offset)

-- the place's own level is judged first, then its offset
abbrev pub PlaceFirst : Next → Type 0
PlaceFirst next =
    ((text : List ℕ) (offset level : ℕ) → deepest < level → next text offset level ≡ no_move_found too_deep offset)
    × ((text : List ℕ) (offset level : ℕ) → level ≤ deepest → length text < offset → next text offset level ≡ no_move_found unknown_token offset)

-- a refused check has 0 moves; where no move is found, start, length and level are 0
abbrev pub RefusedIsEmpty : Check → Next → Type 0
RefusedIsEmpty check next =
    ((text : List ℕ) → ((check text).number ≡ 0 → ⊥) → (check text).moves ≡ 0)
    × ((text : List ℕ) (offset level : ℕ) → (next text offset level).found ≡ 0
    → next text offset level ≡ no_move_found (next text offset level).number (next text offset level).offset)

-- ---- not hollow: a call that finds no move, one that always refuses, and a check that always refuses do not keep it

abbrev pub FindingNoneFails : Type 0
FindingNoneFails =
    (check : Check) (next : Next) → ((text : List ℕ) (offset level : ℕ) → (next text offset level).found ≡ 0)
    → ChecksTheWalk check → WalkingGivesTheMoves check next → ⊥

abbrev pub RefusingNextFails : Type 0
RefusingNextFails =
    (check : Check) (next : Next) → ((text : List ℕ) (offset level : ℕ) → (next text offset level).number ≡ 0 → ⊥)
    → ChecksTheWalk check → WalkingGivesTheMoves check next → ⊥

abbrev pub RefusingCheckFails : Type 0
RefusingCheckFails = (check : Check) → ((text : List ℕ) → (check text).number ≡ 0 → ⊥) → ChecksTheWalk check → ⊥
