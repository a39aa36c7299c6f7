-- The counters of a good log's positions (document 02, order 12), beside the Laws' count: the half-move clock is the start's run on by the count of article
-- 9.3, since both begin again with a pawn's move and with a capture; the move number rises with each of black's moves; both stop at 9,999.
-- Assumes nothing.
use Rattle.std.specs.Prelude.{◌≡◌, true, cond, List, ℕ, ◌+◌, ◌/◌, eqb, ltb}
use Rattle.board_builder.specs.BoardBuilder.{last_count}
use Rattle.position.specs.Layout.{Position, side, position_at}
use Rattle.game_rules.specs.Limits.{Limits}
use Rattle.game_rules.specs.Rules.{History, begun, after, current, moves}
use Rattle.game_rules.specs.Good.{Good, history_of}
use Rattle.game_rules.specs.Calls.{long_enough}
use Rattle.laws.specs.Laws.{laws_count}
use Rattle.laws.specs.Ruling.{ruling_answer}

-- a number that stops at another
unfoldable pub stopped_at : ℕ → ℕ → ℕ
stopped_at most n = cond (ltb n most) n most

-- a clock that stood at `start`, after `made` moves by which the Laws' count is `laws`: the start's clock runs on as long as every move has been counted
unfoldable pub clock_from : ℕ → ℕ → ℕ → ℕ
clock_from start laws made = stopped_at last_count (laws + cond (eqb laws made) start 0)

-- a move number that stood at `start` with `colour` to move, 1 for black, after `made` moves: one more for each that black made
unfoldable pub full_from : ℕ → ℕ → ℕ → ℕ
full_from start colour made = stopped_at last_count (start + (made + colour) / 2)

-- the start of a history
unfoldable pub first_position : History → Position
first_position (begun p) = p
first_position (after h c) = first_position h

abbrev pub clock_of : History → ℕ
clock_of h = clock_from (first_position h).half (laws_count h) (moves h)

abbrev pub full_of : History → ℕ
full_of h = full_from (first_position h).full (side (first_position h)) (moves h)

-- ---- what is promised

-- at the start and after each call of a history
unfoldable pub AllAlong : (History → Type 0) → History → Type 0
AllAlong P (begun p) = P (begun p)
AllAlong P (after h c) = AllAlong P h × P (after h c)

-- each position has this clock, and this move number
abbrev pub ClocksRun : History → Type 0
ClocksRun h = AllAlong (λ (g : History). (current g).half ≡ clock_of g) h

abbrev pub NumbersRun : History → Type 0
NumbersRun h = AllAlong (λ (g : History). (current g).full ≡ full_of g) h

-- they do in the history that a good log holds ..
abbrev pub GoodLogsClock : Type 0
GoodLogsClock = (L : Limits) (acts ps : List ℕ) (n m : ℕ) → Good L acts ps n m → ClocksRun (history_of acts ps n)

abbrev pub GoodLogsNumber : Type 0
GoodLogsNumber = (L : Limits) (acts ps : List ℕ) (n m : ℕ) → Good L acts ps n m → NumbersRun (history_of acts ps n)

-- .. so that, by the ruling's own count, the counters of the last position are those of position 0 run on
pub record LastCounters (L : Limits) (acts ps : List ℕ) (n m : ℕ) : Type 0 where
  pub clock : (position_at ps m).half ≡ clock_from (position_at ps 0).half (ruling_answer L acts ps n m).laws_count m
  pub number : (position_at ps m).full ≡ full_from (position_at ps 0).full (side (position_at ps 0)) m

abbrev pub LastIsRunOn : Type 0
LastIsRunOn = (L : Limits) (acts ps : List ℕ) (n m : ℕ) → long_enough L acts ps ≡ true → Good L acts ps n m → LastCounters L acts ps n m
