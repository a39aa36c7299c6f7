-- Which bytes of its room a step speaks of, computed.
-- Assumes nothing.
use mathlib.Core.Path.{refl}
use Rattle.host_games.specs.AtSmallest.{StepKeysAtSmallest}

pub step_keys_at_smallest : StepKeysAtSmallest
step_keys_at_smallest = record { stepped = λ c. refl }
