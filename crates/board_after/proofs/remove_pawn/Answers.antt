-- `remove_pawn` of lib.rt meets its contract: now squares.exit ≡ pawn_removed (now squares.entry) man source dest.
use mathlib.Core.Path.{sym, ◌∙◌}
use Rattle.move_rules.specs.After.{pawn_removed}
use Rattle.board_after.proofs.remove_pawn.Goals as goal

pub returns-then-not-takes_in_passing : goal.returns-then-not-takes_in_passing
unfolding pawn_removed
returns-then-not-takes_in_passing c = simp (sym c.takes_in_passing.ensures ∙ c.if-not-takes_in_passing.true)

pub returns : goal.returns
unfolding pawn_removed
returns c = simp (sym c.takes_in_passing.ensures ∙ c.if-not-takes_in_passing.false)
