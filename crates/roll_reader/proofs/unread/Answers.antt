-- `unread` of lib.rt meets its contract: r ≡ checked (refusal number).
use Rattle.roll_reader.specs.Checked.{checked}
use mathlib.Core.Path.{refl}
use Rattle.roll_reader.proofs.unread.Goals as goal

pub returns : goal.returns
unfolding checked
returns c = refl
