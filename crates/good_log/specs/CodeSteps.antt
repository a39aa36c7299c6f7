-- One step of the pass that tests a log, read off its bytes: the checks of a call at a place in the log.
-- Assumes nothing.
use Rattle.std.specs.Prelude.{Bool, false, not, ◌&&◌, ◌||◌, List, ℕ, suc, eqb, ltb, Option, Some, None}
use Rattle.answer.specs.Answer.{not_listed, no_offer, no_claim}
use Rattle.answer.specs.Parts.{item}
use Rattle.action.specs.declared.Action.{Action}
use Rattle.action.specs.declared.Action.TheVariants.{MakeMove, OfferDraw, AcceptDraw, DeclareDraw, Resign}
use Rattle.action.specs.Layout.{colour_check}
use Rattle.actions.specs.Part.{last_action}
use Rattle.position.specs.Layout.{position_size, side, position_of}
use Rattle.stored_position.specs.Bytes.{is_position_with}
use Rattle.ending.specs.Ending.{result_of_action, result_at, offer_at}
use Rattle.claim.specs.Claim.{claim_at}
use Rattle.game_rules.specs.Rules.{unless, comes_after}

-- an action's own checks, where it has no move, after the first n actions with position m on the board; a move is not such an action
abbrev pub other_check : List ℕ → List ℕ → ℕ → ℕ → Action → ℕ
other_check acts ps n m (MakeMove x) = not_listed
other_check acts ps n m (OfferDraw c) = colour_check c
other_check acts ps n m AcceptDraw = unless (offer_at acts ps n m) no_offer
other_check acts ps n m DeclareDraw = unless (claim_at acts ps n m) no_claim
other_check acts ps n m (Resign c) = colour_check c

abbrev pub other_fits : List ℕ → List ℕ → ℕ → ℕ → Option Action → Bool
other_fits acts ps n m (Some a) = eqb (other_check acts ps n m a) 0
other_fits acts ps n m None = false

-- action i, which is not a move, was accepted with k moves made before it
abbrev pub other_sound : List ℕ → List ℕ → ℕ → ℕ → Bool
other_sound acts ps i k = eqb (result_at acts ps i k) 0 && other_fits acts ps i k (last_action acts (suc i))

-- the same for one of n actions: if it ended the game, it is the last
abbrev pub other_may_stand : List ℕ → List ℕ → ℕ → ℕ → ℕ → Bool
other_may_stand acts ps n i k = other_sound acts ps i k && (eqb (suc i) n || eqb (result_of_action (last_action acts (suc i))) 0)

-- at q the other side is to move, and its record is the one after move m from p
abbrev pub turns_to : List ℕ → ℕ → List ℕ → Bool
turns_to p m q = not (eqb (side (position_of q)) (side (position_of p))) && comes_after (position_of p) m (position_of q)

-- the position with bytes p lists move m, and that with bytes q is as the move leaves it
abbrev pub move_leads : List ℕ → ℕ → List ℕ → Bool
move_leads p m q = is_position_with p m && turns_to p m q

-- move x was the next one, with k made before it and m in all, if what it left is a position
abbrev pub move_may_stand : List ℕ → ℕ → ℕ → ℕ → Bool
move_may_stand ps m k x = ltb k m && move_leads (item position_size ps k) x (item position_size ps (suc k))
