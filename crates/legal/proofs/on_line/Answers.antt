-- `on_line` of lib.rt meets its contract: r ≡ on_line s t.
use mathlib.Core.Path.{sym, ◌∙◌}
use Rattle.legal.specs.CodeList.{on_line}
use Rattle.legal.proofs.on_line.Goals as goal

pub returns-then-straight : goal.returns-then-straight
unfolding on_line
returns-then-straight c = simp (sym c.straight.ensures ∙ c.if-straight.true)

pub returns : goal.returns
unfolding on_line
returns c = c.diagonal.ensures ∙ simp (sym c.straight.ensures ∙ c.if-straight.false)
