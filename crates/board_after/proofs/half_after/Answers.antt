-- `half_after` of lib.rt meets its contract: r ≡ half_after (now squares.entry) half source dest.
use mathlib.Core.Path.{◌∙◌, sym}
use Rattle.move_rules.specs.After.{half_after}
use Rattle.board_after.proofs.half_after.Goals as goal

pub returns-then-restarts : goal.returns-then-restarts
unfolding half_after
returns-then-restarts c = simp (sym c.restarts.ensures ∙ c.if-restarts.true)

pub returns : goal.returns
unfolding half_after
returns c = c.one_more.ensures ∙ sym (simp (sym c.restarts.ensures ∙ c.if-restarts.false))
