-- `move_at` of lib.rt meets its contract: r ≡ move_found start length level.
use mathlib.Core.Path.{refl}
use Rattle.pgn_text.specs.Walk.{move_found}
use Rattle.pgn.proofs.move_at.Goals as goal

pub returns : goal.returns
unfolding move_found
returns c = refl
