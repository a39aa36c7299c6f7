-- `board_after` of lib.rt meets its contract: r ≡ after_answer b m.
use borrow.Author.Tests.{le-leb, lt-leb}
use mathlib.Core.Path.{ap, sym, ◌∙◌}
use Rattle.move_rules.specs.After.{after_answer}
use Rattle.board_builder.specs.Steps.{stepped}
use Rattle.board_after.proofs.board_after.Goals as goal

pub returns-then-not-in_range : goal.returns-then-not-in_range
unfolding after_answer
returns-then-not-in_range c = c.stepped.ensures ∙ simp (sym c.in_range.ensures ∙ c.if-not-in_range.true)

pub returns-then-m-gt-LAST_MOVE : goal.returns-then-m-gt-LAST_MOVE
unfolding after_answer
returns-then-m-gt-LAST_MOVE c =
    let at-in-range = c.in_range in
    let at-if1 = c.if-not-in_range in
    c.stepped-then-m-gt-LAST_MOVE.ensures ∙ simp (sym at-in-range.ensures ∙ at-if1.false, lt-leb _ _ c.if-m-gt-LAST_MOVE.true)

pub returns : goal.returns
unfolding after_answer
returns c =
    let at-in-range = c.in_range in
    let at-if1 = c.if-not-in_range in
    let at-if2 = c.if-m-gt-LAST_MOVE in
    c.stepped-2.ensures
    ∙ simp (sym at-in-range.ensures ∙ at-if1.false, le-leb _ _ at-if2.false)
    (ap (stepped 0) (rw (c.of.ensures.source, c.of.ensures.dest, c.of.ensures.promotion) at c.counted_after.ensures))
