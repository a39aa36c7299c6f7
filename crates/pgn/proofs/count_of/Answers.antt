-- `count_of` of lib.rt meets its contract: r ≡ count_of w.
use mathlib.Core.Path.{sym, ap, ◌∙◌}
use Rattle.pgn.specs.CodeWalkers.{count_of}
use Rattle.pgn.proofs.count_of.Goals as goal

pub returns-in-Found : goal.returns-in-Found
unfolding count_of
returns-in-Found c = c.end_count.ensures ∙ sym (ap count_of c.in-Found.is)

pub returns-in-Ended : goal.returns-in-Ended
unfolding count_of
returns-in-Ended c = c.end_count-in-Ended.ensures ∙ sym (ap count_of c.in-Ended.is)
