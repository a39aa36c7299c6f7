-- `takes_in_passing` of lib.rt meets its contract: r ≡ takes_in_passing (now squares.entry) man source dest.
use mathlib.Core.Path.{ap₂, ◌∙◌}
use mathlib.Core.Bool.{Bool, ◌&&◌}
use lib.Dec.{eqb}
use Prim.Native.Nat.{ℕ}
use Rattle.move_rules.specs.After.{takes_in_passing}
use Rattle.board_after.proofs.takes_in_passing.Goals as goal

pub returns : goal.returns
unfolding takes_in_passing
returns c = c.both-2.ensures ∙ ap₂ (λ (x : ℕ) (t : Bool). eqb x 1 && t) c.kind_of.ensures c.both.ensures
