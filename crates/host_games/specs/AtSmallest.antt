-- Which bytes of its room a step speaks of: the first, as many as the number `key` of its answer says.
-- Assumes nothing.
use Rattle.std.specs.Prelude.{◌≡◌, take}
use Rattle.host_games.specs.GameCalls.{StepCall, step_key}

pub record StepKeysAtSmallest : Type 0 where
  pub stepped : (c : StepCall) → step_key c ≡ take c.result.key c.left.1.1.1.1.0.now
