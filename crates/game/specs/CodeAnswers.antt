-- The checks of the calls, in their order, read off the bytes.
-- Assumes nothing.
use Rattle.std.specs.Prelude.{Bool, cond, ◌&&◌, List, [], ◌∷◌, ℕ, zero, suc, ◌+◌, ◌*◌, eqb, ltb, Result, Ok, Err}
use Rattle.answer.specs.Answer.{game_over, log_full}
use Rattle.answer.specs.Parts.{written}
use Rattle.board_builder.specs.declared.BoardBuilder.{BoardBuilder}
use Rattle.move_rules.specs.Leads.{leads_to_board, counters_lead}
use Rattle.position.specs.Layout.{half_at, full_at, two_bytes_at}
use Rattle.action.specs.declared.Action.{Action}
use Rattle.action.specs.Layout.{action_size, action_bytes}
use Rattle.ending.specs.Ending.{result_at}
use Rattle.game_rules.specs.declared.Counts.{Counts}
use Rattle.game_rules.specs.Limits.{limits}
use Rattle.game_rules.specs.Rules.{unless, first_refusal}
use Rattle.game_rules.specs.Calls.{log_check, counts}
use Rattle.good_log.specs.CodeSteps.{other_check}

-- a check's number as a result: 0 passes, and any other is the refusal
unfoldable pub check_of : ℕ → Result (Unit {0}) ℕ
check_of zero = Ok tt
check_of (suc k) = Err (suc k)

-- a board is the one after a move from the record at the front of some bytes, its counters too
unfoldable pub moves_on_to : List ℕ → ℕ → BoardBuilder → Bool
moves_on_to p m next =
    leads_to_board p m next && counters_lead p m (two_bytes_at p half_at) (two_bytes_at p full_at) next.half_moves next.full_moves

-- 16, 9, 10
unfoldable pub open_check : List ℕ → List ℕ → ℕ → ℕ → ℕ
open_check acts ps n m = first_refusal (log_check limits acts ps n m ∷ unless (eqb (result_at acts ps n m) 0) game_over ∷ [])

-- then the call's own, then 13
unfoldable pub other_answer : List ℕ → List ℕ → ℕ → ℕ → Action → ℕ
other_answer acts ps n m a =
    first_refusal (open_check acts ps n m ∷ other_check acts ps n m a ∷ unless (ltb n limits.most_actions) log_full ∷ [])

-- what such a call gives back and leaves
abbrev pub other_counts : ℕ → ℕ → ℕ → Counts
other_counts a n m = cond (eqb a 0) (counts 0 (n + 1) m) (counts a n m)

abbrev pub other_actions : ℕ → List ℕ → ℕ → Action → List ℕ
other_actions a acts n action = cond (eqb a 0) (written acts (action_size * n) (action_bytes action)) acts
