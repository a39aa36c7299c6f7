-- `touches_more` of lib.rt meets its contract: r ≡ touches_more (now squares.entry) man source dest.
use mathlib.Core.Path.{ap, ap₂, ◌∙◌}
use mathlib.Core.Bool.{Bool, ◌||◌}
use lib.Dec.{eqb}
use Rattle.board_after.specs.CodeDiffer.{touches_more}
use Rattle.board_after.proofs.touches_more.Goals as goal

pub returns : goal.returns
unfolding touches_more
returns c =
    let a = c.args in
    let at-takes-in-passing = c.takes_in_passing-passing in
    let at-castles = c.castles in
    c.either-2.ensures
    ∙ ap₂ ◌||◌ at-castles.ensures (c.either.ensures ∙ ap (λ (t : Bool). t || eqb a.way.source a.way.dest) at-takes-in-passing.ensures)
