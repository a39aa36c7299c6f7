-- How long a log may be (document 01, "Numbers of the record, the move and the log"). The definitions of this crate take the limits as an argument, and
-- its promises hold for any; the contracts of crates good_log and game put these in.
-- Assumes nothing.
use Rattle.std.specs.Prelude.{ℕ, suc, ◌*◌}
use Rattle.action.specs.Layout.{action_size}
use Rattle.position.specs.Layout.{position_size}

pub record Limits : Type 0 where
  pub most_actions : ℕ
  pub most_moves : ℕ

-- 8,192 actions, 4,096 moves (document 02, order 11)
abbrev pub limits : Limits
limits = record { most_actions = 8192; most_moves = 4096 }

-- the bytes of the two parts: a start and one position after each move
abbrev pub actions_length : Limits → ℕ
actions_length L = action_size * L.most_actions

abbrev pub positions_length : Limits → ℕ
positions_length L = position_size * suc L.most_moves
