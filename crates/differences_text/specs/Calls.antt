-- What the call answers to two rolls and leaves in the room that is lent to it.
-- Assumes nothing.
use Rattle.std.specs.Prelude.{ℕ, List, [], ◌∷◌, ◌++◌}
use Rattle.answer.specs.declared.Answer.{Answer}
use Rattle.answer.specs.Answer.{write_answer, write_bytes}
use Rattle.game_rules.specs.Limits.{Limits}
use Rattle.game_rules.specs.Rules.{first_refusal}
use Rattle.roll_text.specs.Roll.{Rolled, refusal, rolled, read_roll}
use Rattle.roll_text.specs.Calls.{roll_answer}
use Rattle.differences_text.specs.Differences.{Difference, start_numbers, start_differences, action_numbers, action_difference, lines_text}

-- for two games as the roll reader reads them
unfoldable pub differences : Rolled → Rolled → List Difference
differences (refusal k) y = []
differences (rolled st n bs) (refusal k) = []
differences (rolled st n bs) (rolled other m cs) =
    start_differences 0 (start_numbers st) (start_numbers other) ++ action_difference 0 (action_numbers n bs) (action_numbers m cs)

-- for two rolls
abbrev pub roll_differences : Limits → List ℕ → List ℕ → List Difference
roll_differences L s t = differences (read_roll L s) (read_roll L t)

-- "those of the roll reader, first roll first": without 16, since the parts for the actions are the call's own
unfoldable pub differences_check : Limits → List ℕ → List ℕ → ℕ
differences_check L s t = first_refusal ((roll_answer (read_roll L s)).number ∷ (roll_answer (read_roll L t)).number ∷ [])

unfoldable pub differences_text : Limits → List ℕ → List ℕ → List ℕ
differences_text L s t = lines_text (roll_differences L s t)

-- the refusals, then 7 with the length needed, otherwise 0 with the length
abbrev pub differences_answer : Limits → List ℕ → List ℕ → ℕ → Answer
differences_answer L s t room = write_answer (differences_check L s t) (differences_text L s t) room

abbrev pub differences_room : Limits → List ℕ → List ℕ → List ℕ → List ℕ
differences_room L s t out = write_bytes (differences_check L s t) (differences_text L s t) out
