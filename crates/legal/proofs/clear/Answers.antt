-- `clear` of lib.rt meets its contract: r ≡ clear (now squares.entry) s t.
use mathlib.Core.Path.{◌∙◌}
use native.Mathlib.Omega.{arith}
use Rattle.move_laws.specs.Apart.{line_step, clear}
use Rattle.legal.proofs.Lines.{some_distance, between_by, lower_by, upper_by}
use Rattle.legal.proofs.clear.Goals as goal

pub nonzero_div-step : goal.nonzero_div-step
nonzero_div-step c =
    let way = c.args.way in
    let z = some_distance way.source way.dest way.on_board.0 way.on_board.1 c.requires in omega (arith, c.distance.ensures, z)

pub returns : goal.returns
unfolding clear line_step
returns c =
    let way = c.args.way in
    c.empty_up_to.ensures
    ∙ simp (
      c.abs_diff.ensures ∙ between_by way.source way.dest,
      c.distance.ensures,
      c.max.ensures ∙ upper_by way.source way.dest,
      c.min-low.ensures ∙ lower_by way.source way.dest,
    )
