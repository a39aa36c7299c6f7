-- The calls and queries on the bytes (document 01, "Answer numbers"): what each is answered, and what it leaves in the two parts.
-- Assumes nothing.
use Rattle.std.specs.Prelude.{Bool, cond, not, ◌&&◌, List, [], ◌∷◌, ℕ, suc, ◌+◌, ◌*◌, eqb, leb, length}
use Rattle.answer.specs.declared.Answer.{Answer}
use Rattle.answer.specs.Answer.{accepted, refused, not_good, part_too_short}
use Rattle.answer.specs.Parts.{written}
use Rattle.action.specs.Layout.{action_size, action_bytes}
use Rattle.position.specs.Layout.{Position, position_size}
use Rattle.stored_position.specs.Bytes.{position_bytes, position_check}
use Rattle.game_rules.specs.declared.Counts.{Counts}
use Rattle.game_rules.specs.Limits.{Limits, actions_length, positions_length}
use Rattle.game_rules.specs.Rules.{Call, is_move, action_made, unless, first_refusal, answer, result, ended, claim_stands}
use Rattle.game_rules.specs.Good.{is_good, history_of, position_made}

-- both lent parts are as long as the limits ask
abbrev pub long_enough : Limits → List ℕ → List ℕ → Bool
long_enough L acts ps = leb (actions_length L) (length acts) && leb (positions_length L) (length ps)

-- 16, then 9
unfoldable pub log_check : Limits → List ℕ → List ℕ → ℕ → ℕ → ℕ
log_check L acts ps n m =
    first_refusal
    (unless (long_enough L acts ps) part_too_short
    ∷ unless (leb n L.most_actions && leb m L.most_moves) not_good
    ∷ unless (is_good L acts ps n m) not_good
    ∷ [])

unfoldable pub call_answer : Limits → List ℕ → List ℕ → ℕ → ℕ → Call → ℕ
call_answer L acts ps n m c = first_refusal (log_check L acts ps n m ∷ answer L (history_of acts ps n) c ∷ [])

abbrev pub counts : ℕ → ℕ → ℕ → Counts
counts number n m = record { number = number; actions = n; moves = m }

-- what a call answered with a gives back: the counts as given where it is refused
unfoldable pub counts_after : ℕ → ℕ → ℕ → Call → Counts
counts_after a n m c = cond (eqb a 0) (counts 0 (n + 1) (cond (is_move c) (m + 1) m)) (counts a n m)

-- what it leaves: one more action, and one more position for a move
unfoldable pub actions_after : ℕ → List ℕ → ℕ → Call → List ℕ
actions_after a acts n c = cond (eqb a 0) (written acts (action_size * n) (action_bytes (action_made c))) acts

unfoldable pub positions_after : ℕ → List ℕ → ℕ → Call → List ℕ
positions_after a ps m c = cond (eqb a 0) (written ps (position_size * suc m) (position_made c)) ps

-- a start: 16, 5, 6; counts 0 and 0, accepted or refused, and position 0 where it is accepted
unfoldable pub start_answer : Limits → List ℕ → List ℕ → Position → ℕ
start_answer L acts ps p = first_refusal (unless (long_enough L acts ps) part_too_short ∷ position_check p ∷ [])

unfoldable pub positions_begun : ℕ → List ℕ → Position → List ℕ
positions_begun a ps p = cond (eqb a 0) (written ps 0 (position_bytes p)) ps

-- the queries: 16 and 9 alone are refusals
abbrev pub accepted_unless : ℕ → ℕ → Answer
accepted_unless a value = cond (eqb a 0) (accepted value) (refused a)

unfoldable pub result_answer : Limits → List ℕ → List ℕ → ℕ → ℕ → Answer
result_answer L acts ps n m = accepted_unless (log_check L acts ps n m) (result (history_of acts ps n))

-- no claim stands once the game has ended
unfoldable pub claim_answer : Limits → List ℕ → List ℕ → ℕ → ℕ → Answer
claim_answer L acts ps n m =
    accepted_unless (log_check L acts ps n m) (cond (not (ended (history_of acts ps n)) && claim_stands (history_of acts ps n)) 1 0)
