-- Endings (document 01, "Draws and endings"): the game has ended if the current list is empty (checkmate for the other side if in check, else
-- stalemate) or the last action is an accepted draw, a declared draw or a resignation. Results are 1 to 7 in the order of `GameResult`, 0 for none.
-- And offers: one stands if it is the last action, by either colour, or the last but one by the side not to move.
-- Assumes nothing.
use Rattle.std.specs.Prelude.{Bool, true, false, cond, ◌||◌, List, ℕ, ◌-◌, eqb, length, Option, Some, None}
use Rattle.action.specs.declared.Action.{Action}
use Rattle.action.specs.declared.Action.TheVariants.{MakeMove, OfferDraw, AcceptDraw, DeclareDraw, Resign}
use Rattle.actions.specs.Part.{last_action}
use Rattle.position.specs.Layout.{Position, side, position_at}

abbrev pub white_checkmates : ℕ
white_checkmates = 1

abbrev pub white_resigns : ℕ
white_resigns = 2

abbrev pub black_checkmates : ℕ
black_checkmates = 3

abbrev pub black_resigns : ℕ
black_resigns = 4

abbrev pub stalemate : ℕ
stalemate = 5

abbrev pub draw_accepted : ℕ
draw_accepted = 6

abbrev pub draw_declared : ℕ
draw_declared = 7

-- with no move left
abbrev pub result_without_moves : ℕ → ℕ → ℕ
result_without_moves side check = cond (eqb check 0) stalemate (cond (eqb side 0) black_checkmates white_checkmates)

-- by the last action
abbrev pub result_of_action : Option Action → ℕ
result_of_action (Some (MakeMove m)) = 0
result_of_action (Some (OfferDraw c)) = 0
result_of_action (Some AcceptDraw) = draw_accepted
result_of_action (Some DeclareDraw) = draw_declared
result_of_action (Some (Resign c)) = cond (eqb c 0) white_resigns black_resigns
result_of_action None = 0

unfoldable pub result_of : Position → Option Action → ℕ
result_of p last = cond (eqb (length p.moves) 0) (result_without_moves (side p) p.check) (result_of_action last)

abbrev pub is_offer : Option Action → Bool
is_offer (Some (MakeMove m)) = false
is_offer (Some (OfferDraw c)) = true
is_offer (Some AcceptDraw) = false
is_offer (Some DeclareDraw) = false
is_offer (Some (Resign c)) = false
is_offer None = false

abbrev pub is_offer_by : ℕ → Option Action → Bool
is_offer_by colour (Some (MakeMove m)) = false
is_offer_by colour (Some (OfferDraw c)) = eqb c colour
is_offer_by colour (Some AcceptDraw) = false
is_offer_by colour (Some DeclareDraw) = false
is_offer_by colour (Some (Resign c)) = false
is_offer_by colour None = false

-- the last action, and the last but one
unfoldable pub offer_in : Position → Option Action → Option Action → Bool
offer_in p last before = is_offer last || is_offer_by (1 - side p) before

-- the same for a log's first n actions and its position m
abbrev pub result_at : List ℕ → List ℕ → ℕ → ℕ → ℕ
result_at acts ps n m = result_of (position_at ps m) (last_action acts n)

abbrev pub offer_at : List ℕ → List ℕ → ℕ → ℕ → Bool
offer_at acts ps n m = offer_in (position_at ps m) (last_action acts n) (last_action acts (n - 1))
