-- Which bytes of its room a call speaks of, each row computed.
-- Assumes nothing.
use mathlib.Core.Path.{refl}
use Rattle.host_settled.specs.AtSmallest.{KeysAtSmallest}

pub keys_at_smallest : KeysAtSmallest
keys_at_smallest = record { written = λ c. refl; named = λ c. refl }
