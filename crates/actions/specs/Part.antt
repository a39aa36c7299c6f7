-- The actions part of a log (document 01, "Numbers of the record, the move and the log"): which of its actions are moves, and which action is the last.
-- Assumes nothing.
use Rattle.std.specs.Prelude.{Bool, true, cond, ◌&&◌, List, ℕ, zero, suc, ◌+◌, leb, Option, Some, None, is_some}
use Rattle.answer.specs.Parts.{item}
use Rattle.chess_move.specs.Number.{last_move, number_answer}
use Rattle.action.specs.declared.Action.{Action}
use Rattle.action.specs.declared.Action.TheVariants.{MakeMove, OfferDraw, AcceptDraw, DeclareDraw, Resign}
use Rattle.action.specs.Layout.{action_size, action_of}

-- action i of the part
abbrev pub action_at : List ℕ → ℕ → Option Action
action_at acts i = action_of (item action_size acts i)

-- the number of the move that is held, or one that belongs to no move
abbrev pub no_move : ℕ
no_move = last_move + 1

abbrev pub move_held : Option Action → ℕ
move_held (Some (MakeMove m)) = (number_answer m).value
move_held (Some (OfferDraw c)) = no_move
move_held (Some AcceptDraw) = no_move
move_held (Some DeclareDraw) = no_move
move_held (Some (Resign c)) = no_move
move_held None = no_move

abbrev pub move_at : List ℕ → ℕ → ℕ
move_at acts i = move_held (action_at acts i)

-- how many of the first n actions are moves
unfoldable pub moves_in : List ℕ → ℕ → ℕ
moves_in acts zero = 0
moves_in acts (suc i) = cond (leb (move_at acts i) last_move) (suc (moves_in acts i)) (moves_in acts i)

-- whether some bytes hold an action, and whether the first n actions do
abbrev pub is_held : Option Action → Bool
is_held a = is_some a

unfoldable pub actions_held : List ℕ → ℕ → Bool
actions_held acts zero = true
actions_held acts (suc i) = actions_held acts i && is_held (action_at acts i)

-- the last of the first n actions
unfoldable pub last_action : List ℕ → ℕ → Option Action
last_action acts zero = None
last_action acts (suc i) = action_at acts i
