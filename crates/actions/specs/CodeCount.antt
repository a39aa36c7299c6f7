-- How the code counts moves: what it adds for an action's fields. Not the paper's words, which are in Part.
-- Assumes nothing.
use Rattle.std.specs.Prelude.{cond, ◌&&◌, ℕ, eqb, leb}
use Rattle.chess_move.specs.Number.{last_move}

-- 1 for the fields of a move's action
abbrev pub one_if_move : ℕ → ℕ → ℕ → ℕ
one_if_move kind colour number = cond (eqb kind 1) (cond (eqb colour 0 && leb number last_move) 1 0) 0
