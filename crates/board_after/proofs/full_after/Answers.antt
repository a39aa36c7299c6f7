-- `full_after` of lib.rt meets its contract: r ≡ full_after side full.
use mathlib.Core.Path.{◌∙◌, sym}
use borrow.Author.Tests.{eq-eqb, ne_eqb}
use Rattle.move_rules.specs.After.{full_after}
use Rattle.board_after.proofs.full_after.Goals as goal

pub returns-then-side-eq0 : goal.returns-then-side-eq0
unfolding full_after
returns-then-side-eq0 c = simp (eq-eqb _ _ c.if-side-eq0.true)

pub returns : goal.returns
unfolding full_after
returns c = c.one_more.ensures ∙ sym (simp (ne_eqb _ _ c.if-side-eq0.false))
