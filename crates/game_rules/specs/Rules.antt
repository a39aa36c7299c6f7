-- Games as histories, and the rules (document 01, "Answer numbers", "Draws and endings"): what a call is answered after what went before it.
-- Assumes nothing.
use Rattle.std.specs.Prelude.{Bool, true, false, cond, not, ◌&&◌, ◌||◌, List, [], ◌∷◌, ◌++◌, ℕ, suc, eqb, leb, ltb, Option, Some, None}
use Rattle.answer.specs.Answer.{not_listed, game_over, wrong_side, wrong_record, log_full, no_offer, no_claim}
use Rattle.answer.specs.Numbers.{same, among}
use Rattle.chess_move.specs.Number.{move_of}
use Rattle.move_rules.specs.After.{record_after}
use Rattle.move_rules.specs.Leads.{counters_from}
use Rattle.action.specs.declared.Action.{Action}
use Rattle.action.specs.declared.Action.TheVariants.{MakeMove, OfferDraw, AcceptDraw, DeclareDraw, Resign}
use Rattle.action.specs.Layout.{colour_check}
use Rattle.position.specs.Layout.{Position, side}
use Rattle.position.specs.Repeats.{times}
use Rattle.stored_position.specs.Bytes.{position_check}
use Rattle.ending.specs.Ending.{result_of, offer_in}
use Rattle.claim.specs.Emptying.{empties_count, empties_run}
use Rattle.claim.specs.Claim.{claim_count}
use Rattle.game_rules.specs.Limits.{Limits}

-- a call on a game that has begun: a move by its number with the position after it, and the four others
pub data Call : Type 0 where
  make_move : ℕ → Position → Call
  offer_draw : ℕ → Call
  accept_draw : Call
  declare_draw : Call
  resign : ℕ → Call

-- a start and the calls that followed it, the newest outermost
pub data History : Type 0 where
  begun : Position → History
  after : History → Call → History

abbrev pub is_move : Call → Bool
is_move (make_move m p) = true
is_move (offer_draw c) = false
is_move accept_draw = false
is_move declare_draw = false
is_move (resign c) = false

-- the action that a call leaves in the log
abbrev pub action_made : Call → Action
action_made (make_move m p) = MakeMove (move_of m)
action_made (offer_draw c) = OfferDraw c
action_made accept_draw = AcceptDraw
action_made declare_draw = DeclareDraw
action_made (resign c) = Resign c

-- the position that a call leaves on the board, given the one before it
abbrev pub position_after : Call → Position → Position
position_after (make_move m p) q = p
position_after (offer_draw c) q = q
position_after accept_draw q = q
position_after declare_draw q = q
position_after (resign c) q = q

unfoldable pub current : History → Position
current (begun p) = p
current (after h c) = position_after c (current h)

unfoldable pub actions : History → ℕ
actions (begun p) = 0
actions (after h c) = suc (actions h)

unfoldable pub moves : History → ℕ
moves (begun p) = 0
moves (after h c) = cond (is_move c) (suc (moves h)) (moves h)

-- the last action, and the last but one
unfoldable pub last_made : History → Option Action
last_made (begun p) = None
last_made (after h c) = Some (action_made c)

unfoldable pub last_but_one : History → Option Action
last_but_one (begun p) = None
last_but_one (after h c) = last_made h

unfoldable pub result : History → ℕ
result h = result_of (current h) (last_made h)

abbrev pub ended : History → Bool
ended h = not (eqb (result h) 0)

unfoldable pub offer_stands : History → Bool
offer_stands h = offer_in (current h) (last_made h) (last_but_one h)

-- the reversible count, and the run of positions, newest first
pub record Ruling : Type 0 where
  pub count : ℕ
  pub run : List Position

-- a move from p to q that does not empty the count adds 1; the new position joins the run
abbrev pub count_after : Position → ℕ → Position → ℕ → ℕ
count_after p m q count = cond (empties_count p m q) 0 (suc count)

abbrev pub run_joined : Position → ℕ → Position → List Position → List Position
run_joined p m q run = q ∷ cond (empties_run p m q) [] run

abbrev pub ruled_call : Ruling → Position → Call → Ruling
ruled_call r p (make_move m q) = record { count = count_after p m q r.count; run = run_joined p m q r.run }
ruled_call r p (offer_draw c) = r
ruled_call r p accept_draw = r
ruled_call r p declare_draw = r
ruled_call r p (resign c) = r

-- they start at 0 and the start position
unfoldable pub ruling : History → Ruling
ruling (begun p) = record { count = 0; run = p ∷ [] }
ruling (after h c) = ruled_call (ruling h) (current h) c

-- how many earlier positions of a run equal its last
abbrev pub repeats : List Position → ℕ
repeats [] = 0
repeats (p ∷ ps) = times p ps

unfoldable pub claim_stands : History → Bool
claim_stands h = leb claim_count (ruling h).count || leb 2 (repeats (ruling h).run)

-- a refusal where a test fails
abbrev pub unless : Bool → ℕ → ℕ
unless ok number = cond ok 0 number

-- the first refusal of some checks, 0 where all pass
unfoldable pub first_refusal : List ℕ → ℕ
first_refusal [] = 0
first_refusal (a ∷ rest) = cond (eqb a 0) (first_refusal rest) a

-- the record of a position is the one after a move from another, its counters too
abbrev pub comes_after : Position → ℕ → Position → Bool
comes_after p m q = same q.board (record_after p.board m) && counters_from p.board m p.half p.full q.half q.full

-- a call's own checks: for a move 11, 5, 6, 12, 24; for an offer or a resignation 5; for the others 14 or 15
abbrev pub own_checks : History → Call → List ℕ
own_checks h (make_move m p) =
    unless (among m (current h).moves) not_listed
    ∷ position_check p
    ∷ unless (not (eqb (side p) (side (current h)))) wrong_side
    ∷ unless (comes_after (current h) m p) wrong_record
    ∷ []
own_checks h (offer_draw c) = colour_check c ∷ []
own_checks h accept_draw = unless (offer_stands h) no_offer ∷ []
own_checks h declare_draw = unless (claim_stands h) no_claim ∷ []
own_checks h (resign c) = colour_check c ∷ []

-- there is room for one more action, and for a move for one more position
abbrev pub room_for : Limits → History → Call → Bool
room_for L h c = ltb (actions h) L.most_actions && (not (is_move c) || ltb (moves h) L.most_moves)

-- 10, the call's own, 13
unfoldable pub answer : Limits → History → Call → ℕ
answer L h c = first_refusal (unless (not (ended h)) game_over ∷ (own_checks h c ++ (unless (room_for L h c) log_full ∷ [])))
