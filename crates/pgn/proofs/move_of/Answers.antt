-- `move_of` of lib.rt meets its contract: r ≡ move_walked w.
use mathlib.Core.Path.{sym, ap, ◌∙◌}
use Rattle.pgn.specs.CodeWalkers.{move_walked}
use Rattle.pgn.proofs.move_of.Goals as goal

pub returns-in-Found : goal.returns-in-Found
unfolding move_walked
returns-in-Found c = c.move_at.ensures ∙ sym (ap move_walked c.in-Found.is)

pub returns-in-Ended : goal.returns-in-Ended
unfolding move_walked
returns-in-Ended c = c.no_move.ensures ∙ sym (ap move_walked c.in-Ended.is)
