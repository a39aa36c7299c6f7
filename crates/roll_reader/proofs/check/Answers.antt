use mathlib.Core.Path.{ap, sym, ◌∙◌}
use Rattle.roll_reader.specs.CodeWalk.{start_with}
use Rattle.roll_reader.specs.Checked.{checked}
use Rattle.roll_reader.proofs.Checks.{counted}
use Rattle.roll_reader.proofs.check.Goals as goal

pub returns-in-Ok : goal.returns-in-Ok
returns-in-Ok c =
    let w = c.in-Ok.ensures.accepted in
    counted (start_with c.args.s.now c.in-Ok.w.half c.in-Ok.w.full) c.in-Ok.w.actions _ w.actions ∙ ap checked (sym w.reads)
