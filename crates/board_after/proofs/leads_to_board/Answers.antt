-- `leads_to_board` of lib.rt meets its contract: r ≡ leads_to_board (now p.entry) m next.
use mathlib.Core.Path.{ap, ◌∙◌}
use native.Mathlib.Omega.{arith}
use Rattle.answer.specs.Numbers.{same}
use Rattle.board_builder.specs.declared.BoardBuilder.{BoardBuilder}
use Rattle.board_builder.specs.BoardBuilder.{numbers}
use Rattle.move_rules.specs.After.{record_after}
use Rattle.board_after.proofs.Tests.{none_before, from_record}
use Rattle.board_after.proofs.leads_to_board.Goals as goal

pub returns-in_default : goal.returns-in_default
returns-in_default c = none_before c.args.p.now c.args.m (numbers c.args.next) (grind arith)

pub returns : goal.returns
unfolding record_after numbers
returns c =
    let a = c.args in
    let front = c.in-Some.ensures.cases in
    let step = c.of.ensures in
    let computed = rw (c.from_numbers.ensures, front.same, step.source, step.dest, step.promotion) at c.after-computed.ensures in
    c.same_record.ensures
    ∙ ap (λ (b : BoardBuilder). same (numbers a.next) (numbers b)) computed
    ∙ from_record a.p.now a.m front.enough (numbers a.next)
