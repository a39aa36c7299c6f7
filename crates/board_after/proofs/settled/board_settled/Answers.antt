-- `board_settled` of settled.rt meets its contract: r ≡ settled_answer b.
use mathlib.Core.Path.{ap, sym, ◌∙◌}
use Rattle.board_builder.specs.Steps.{stepped}
use Rattle.settled_rules.specs.Settled.{settled_answer}
use Rattle.board_after.proofs.settled.board_settled.Goals as goal

pub returns-then-not-in_range : goal.returns-then-not-in_range
unfolding settled_answer
returns-then-not-in_range c = c.stepped.ensures ∙ simp (sym c.in_range.ensures ∙ c.if-not-in_range.true)

pub returns : goal.returns
unfolding settled_answer
returns c =
    let at-in-range = c.in_range in
    let at-if1 = c.if-not-in_range in
    let at-settle = c.settle in
    c.stepped-2.ensures ∙ simp (sym at-in-range.ensures ∙ at-if1.false) (ap (stepped 0) at-settle.ensures)
