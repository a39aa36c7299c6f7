-- What is promised about actions and their bytes, each as a statement that can be read by itself.
-- Assumes nothing.
use Rattle.std.specs.Prelude.{ℕ, ◌≡◌, true, List, length, take, Some}
use Rattle.answer.specs.Answer.{write_answer, write_bytes}
use Rattle.answer.specs.Numbers.{all_at_most}
use Rattle.action.specs.declared.Action.{Action}
use Rattle.action.specs.Layout.{action_size, action_bytes, action_check, action_of}

-- a written action reads back to itself
abbrev pub ActionsReadBack : Type 0
ActionsReadBack = (a : Action) (out : List ℕ) → (write_answer (action_check a) (action_bytes a) (length out)).number ≡ 0 →
    action_of (take action_size (write_bytes (action_check a) (action_bytes a) out)) ≡ Some a

-- no other bytes hold it
abbrev pub OneForm : Type 0
OneForm = (s : List ℕ) (a : Action) → all_at_most 255 s ≡ true → action_of s ≡ Some a → (action_check a ≡ 0) × (s ≡ action_bytes a)
