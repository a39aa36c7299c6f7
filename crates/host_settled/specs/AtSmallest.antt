-- Which bytes of its room a call speaks of: the first, as many as the number `value` of its answer says, which stands behind `number` and before `offset`.
-- Assumes nothing.
use Rattle.std.specs.Prelude.{◌≡◌, take}
use Rattle.host_settled.specs.SettledCalls.{WriteCall, write_key, KeyCall, name_key}

pub record KeysAtSmallest : Type 0 where
  pub written : (c : WriteCall) → write_key c ≡ take c.result.value c.left.1.0.now
  pub named : (c : KeyCall) → name_key c ≡ take c.result.value c.left.1.0.now
