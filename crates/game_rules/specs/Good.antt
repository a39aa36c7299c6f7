-- A log is good exactly when some sequence of accepted calls from a start makes it (document 01, "Numbers of the record, the move and the log").
-- Assumes nothing.
use Rattle.std.specs.Prelude.{◌≡◌, Bool, ◌&&◌, List, [], ◌++◌, ℕ, zero, suc, ◌*◌, eqb, take, Option, Some, None}
use Rattle.answer.specs.Numbers.{same}
use Rattle.answer.specs.Parts.{item}
use Rattle.chess_move.specs.Number.{number_answer}
use Rattle.action.specs.declared.Action.{Action}
use Rattle.action.specs.declared.Action.TheVariants.{MakeMove, OfferDraw, AcceptDraw, DeclareDraw, Resign}
use Rattle.action.specs.Layout.{action_size, action_bytes}
use Rattle.actions.specs.Part.{action_at, moves_in}
use Rattle.position.specs.Layout.{Position, position_size, position_at}
use Rattle.stored_position.specs.Bytes.{position_bytes, position_check, is_position}
use Rattle.game_rules.specs.Limits.{Limits}
use Rattle.game_rules.specs.Rules.{Call, make_move, offer_draw, accept_draw, declare_draw, resign, History, begun, after, actions, moves, action_made, answer}

-- every call was accepted when it was made
unfoldable pub Accepted : Limits → History → Type 0
Accepted L (begun p) = position_check p ≡ 0
Accepted L (after h c) = Accepted L h × (answer L h c ≡ 0)

-- the bytes that a history leaves in the two parts
unfoldable pub action_part : History → List ℕ
action_part (begun p) = []
action_part (after h c) = action_part h ++ action_bytes (action_made c)

abbrev pub position_made : Call → List ℕ
position_made (make_move m p) = position_bytes p
position_made (offer_draw c) = []
position_made accept_draw = []
position_made declare_draw = []
position_made (resign c) = []

unfoldable pub position_part : History → List ℕ
position_part (begun p) = position_bytes p
position_part (after h c) = position_part h ++ position_made c

-- the used bytes of the two parts, and the counts, are those of the history
pub record Holding (acts ps : List ℕ) (n m : ℕ) (h : History) : Type 0 where
  pub action_count : n ≡ actions h
  pub move_count : m ≡ moves h
  pub action_bytes_fact : take (action_size * n) acts ≡ action_part h
  pub position_bytes_fact : take (position_size * suc m) ps ≡ position_part h

abbrev pub Good : Limits → List ℕ → List ℕ → ℕ → ℕ → Type 0
Good L acts ps n m = (h : History) × Accepted L h × Holding acts ps n m h

-- The same as one pass over the bytes. What they say, read as a history:

-- the call that leaves an action, and position p if it is a move; where no action stands, a call that is always refused
abbrev pub call_of : Option Action → Position → Call
call_of (Some (MakeMove m)) p = make_move (number_answer m).value p
call_of (Some (OfferDraw c)) p = offer_draw c
call_of (Some AcceptDraw) p = accept_draw
call_of (Some DeclareDraw) p = declare_draw
call_of (Some (Resign c)) p = resign c
call_of None p = offer_draw 2

unfoldable pub call_at : List ℕ → List ℕ → ℕ → Call
call_at acts ps i = call_of (action_at acts i) (position_at ps (suc (moves_in acts i)))

unfoldable pub history_of : List ℕ → List ℕ → ℕ → History
history_of acts ps zero = begun (position_at ps 0)
history_of acts ps (suc i) = after (history_of acts ps i) (call_at acts ps i)

-- the bytes that stand where a call's position would
abbrev pub position_here : Call → List ℕ → List ℕ
position_here (make_move m p) s = s
position_here (offer_draw c) s = []
position_here accept_draw s = []
position_here declare_draw s = []
position_here (resign c) s = []

-- a call was accepted after a history, and left exactly the bytes a and s
abbrev pub was_made : Limits → History → Call → List ℕ → List ℕ → Bool
was_made L h c a s = eqb (answer L h c) 0 && (same a (action_bytes (action_made c)) && same (position_here c s) (position_made c))

-- action i is one that was accepted after the first i
unfoldable pub next_sound : Limits → List ℕ → List ℕ → ℕ → Bool
next_sound L acts ps i = was_made L (history_of acts ps i) (call_at acts ps i) (item action_size acts i) (item position_size ps (suc (moves_in acts i)))

unfoldable pub sound : Limits → List ℕ → List ℕ → ℕ → Bool
sound L acts ps zero = is_position (item position_size ps 0)
sound L acts ps (suc i) = sound L acts ps i && next_sound L acts ps i

-- the decision: as many moves as are counted, and each action sound
unfoldable pub is_good : Limits → List ℕ → List ℕ → ℕ → ℕ → Bool
is_good L acts ps n m = eqb m (moves_in acts n) && sound L acts ps n
