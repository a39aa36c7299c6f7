-- Two limits in order (document 02, order 11): those of document 01 and those of the contracts; and what lies within the smaller.
-- Assumes nothing.
use Rattle.std.specs.Prelude.{Bool, not, ◌&&◌, ◌||◌, ℕ, ◌≤◌, leb, ltb}
use Rattle.game_rules.specs.Limits.{Limits}
use Rattle.game_rules.specs.Rules.{Call, is_move}

-- document 01's: 2,048 actions, 1,024 moves
abbrev pub old_limits : Limits
old_limits = record { most_actions = 2048; most_moves = 1024 }

-- limits L allow no more than limits M
pub record AllowsNoLess (L M : Limits) : Type 0 where
  pub actions : L.most_actions ≤ M.most_actions
  pub moves : L.most_moves ≤ M.most_moves

-- these numbers of actions and moves are within the limits
abbrev pub within : Limits → ℕ → ℕ → Bool
within L n m = leb n L.most_actions && leb m L.most_moves

-- a call after that many of each does not reach them: there is room for one more action and, if it is a move, for one more move
abbrev pub room_after : Limits → ℕ → ℕ → Call → Bool
room_after L n m c = ltb n L.most_actions && (not (is_move c) || ltb m L.most_moves)
