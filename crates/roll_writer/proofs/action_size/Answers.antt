use mathlib.Core.Path.{ap, sym, ◌∙◌}
use native.Mathlib.Omega.{arith}
use Rattle.std.proofs.Common.{take_all}
use Rattle.roll_text.specs.declared.Fields.{Fields}
use Rattle.roll_writer.specs.CodeSizes.{move_size}
use Rattle.roll_writer.proofs.Sized.{at_move, at_plain}
use Rattle.roll_writer.proofs.action_size.Goals as goal

pub returns-then-f-eq1-clause-size : goal.returns-then-f-eq1-clause-size
returns-then-f-eq1-clause-size c =
    let f = c.fields_of-f.ensures in
    let one = sym (ap (λ (x : Fields). x.kind) f) ∙ c.if-f-eq1.true in
    c.move_size.ensures.size ∙ ap (λ (x : Fields). move_size x.colour x.number) f ∙ at_move c.args.action.now (omega (arith, c.told-action)) one

pub returns-clause-size : goal.returns-clause-size
returns-clause-size c =
    let action = c.args.action.now in
    c.plain_size.ensures
    ∙ at_plain action action (omega (arith, c.told-action)) (λ e. c.if-f-eq1.false (ap (λ (x : Fields). x.kind) c.fields_of-f.ensures ∙ e))
    (sym (take_all 4 action (omega (arith, c.told-action))))
