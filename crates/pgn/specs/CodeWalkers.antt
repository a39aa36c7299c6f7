-- What the two walkers promise, at any open brackets of their level.
-- Assumes nothing.
use Rattle.std.specs.Prelude.{ℕ, ◌+◌, ◌-◌, ◌≤◌, ◌<◌, ◌≡◌, cond, Result, Ok, Err, List, eqb, ltb, length, drop, replicate}
use Rattle.answer.specs.Answer.{unknown_token}
use Rattle.pgn_text.specs.declared.Token.TheVariants.{Passed, Move, Closing}
use Rattle.pgn_text.specs.declared.PgnCount.{PgnCount}
use Rattle.pgn_text.specs.declared.PgnMove.{PgnMove}
use Rattle.pgn_text.specs.Token.{token_at}
use Rattle.pgn_text.specs.Walk.{Walk, found, ended, walk, end_count, no_move_found, move_found}
use Rattle.pgn.specs.declared.walk.Reached.{Reached}
use Rattle.pgn.specs.declared.walk.Stopped.{Stopped}
use Rattle.pgn.specs.declared.walk.Stopped.TheVariants.{Found, Ended}

-- where a walk stops: at its first move of a level under `stop`, or, counting the moves before it, at its end, with n counted before
unfoldable pub outcome : ℕ → ℕ → Walk → Stopped
outcome stop n (ended number offset) = Ended n number offset
outcome stop n (found start size level w) = cond (ltb level stop) (Found start size level) (outcome stop (n + 1) w)

-- what the walk comes to from an offset on, with some moves counted before it
abbrev pub walked_from : List ℕ → ℕ → List ℕ → ℕ → ℕ → Stopped
walked_from s stop os at count = outcome stop count (walk 0 at os (drop at s))

-- the same from a place, each bracket opened before it counted as opened there
abbrev pub told_from : List ℕ → ℕ → ℕ → ℕ → Stopped
told_from s stop offset level = walked_from s stop (replicate level offset) offset 0

-- a result ends the walk outside brackets and is refused inside
unfoldable pub at_result : ℕ → ℕ → ℕ → Stopped
at_result level count at = cond (eqb level 0) (Ended count 0 0) (Ended count unknown_token at)

-- a walker has come from one offset to another at its level: the walk comes to the same from there
pub record Came (s : List ℕ) (stop : ℕ) (level start moves at count : ℕ) : Type 0 where
  pub same : (os : List ℕ) → length os ≡ level → walked_from s stop os start moves ≡ walked_from s stop os at count
  pub forth : start ≤ at
  pub within : at ≤ length s
  pub counted : count ≤ at

-- the walk is over, and this is what it comes to
abbrev pub Over : List ℕ → ℕ → ℕ → ℕ → ℕ → Stopped → Type 0
Over s stop level start moves r = (os : List ℕ) → length os ≡ level → walked_from s stop os start moves ≡ r

-- a sequence ends at the bracket that closes it, or at the end of the text
abbrev pub Sequenced : List ℕ → ℕ → ℕ → ℕ → ℕ → Result Reached Stopped → Type 0
Sequenced s stop level start moves (Ok end) =
    Came s stop level start moves end.at end.count × (end.at < length s → token_at s end.at ≡ Closing)
Sequenced s stop level start moves (Err r) = Over s stop level start moves r

-- a variation ends behind the bracket that closes it
abbrev pub Varied : List ℕ → ℕ → ℕ → ℕ → ℕ → Result Reached Stopped → Type 0
Varied s stop level start moves (Ok end) = Came s stop level start moves end.at end.count × (start < end.at)
Varied s stop level start moves (Err r) = Over s stop level start moves r

-- a move of that many bytes stands one blank behind a place
abbrev pub IsNear : List ℕ → ℕ → ℕ → Type 0
IsNear s place size = (1 ≤ size) × (place + 1 < length s) × (token_at s place ≡ Passed 0) × (token_at s (place + 1) ≡ Move (size - 1))

-- ---- the answers; one that counts never stops at a move

unfoldable pub count_of : Stopped → PgnCount
count_of (Found start size level) = end_count 0 0 0
count_of (Ended count number offset) = end_count count number offset

unfoldable pub move_walked : Stopped → PgnMove
move_walked (Found start size level) = move_found start size level
move_walked (Ended count number offset) = no_move_found number offset
