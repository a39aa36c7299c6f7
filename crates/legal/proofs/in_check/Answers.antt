-- `in_check` of lib.rt meets its contract: r ≡ check_answer b.
use mathlib.Core.Path.{ap, sym, ◌∙◌}
use Rattle.move_laws.specs.Legal.{check_answer}
use Rattle.answer.specs.Answer.{accepted}
use Rattle.legal.proofs.in_check.Goals as goal

pub returns-then-not-in_range : goal.returns-then-not-in_range
unfolding check_answer
returns-then-not-in_range c = c.refused.ensures ∙ simp (sym c.in_range.ensures ∙ c.if-not-in_range.true)

pub returns : goal.returns
unfolding check_answer
returns c =
    let at-in-range = c.in_range in
    let at-if1 = c.if-not-in_range in
    let at-check-byte = c.check_byte in
    c.accepted_byte.ensures ∙ simp (sym at-in-range.ensures ∙ at-if1.false) (ap accepted at-check-byte.ensures)
