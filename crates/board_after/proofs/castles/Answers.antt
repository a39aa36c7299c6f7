-- `castles` of lib.rt meets its contract: r ≡ castles man source dest.
use mathlib.Core.Path.{ap, ap₂, ◌∙◌}
use mathlib.Core.Bool.{Bool, ◌&&◌}
use lib.Dec.{eqb}
use Prim.Native.Nat.{ℕ, ◌/◌}
use Rattle.move_rules.specs.After.{castles}
use Rattle.board_after.proofs.Touched.{two_on_rank}
use Rattle.board_after.proofs.castles.Goals as goal

pub returns : goal.returns
unfolding castles
returns c =
    let a = c.args in
    let at-two-apart = c.two_apart-two in
    let at-kind-of = c.kind_of in
    c.both-2.ensures
    ∙ ap₂ (λ (x : ℕ) (t : Bool). eqb x 6 && t) at-kind-of.ensures
    (c.both.ensures
    ∙ ap (λ (t : Bool). eqb (a.way.source / 8) (a.way.dest / 8) && t) at-two-apart.ensures
    ∙ two_on_rank a.way.source a.way.dest a.way.on_board.0 a.way.on_board.1)
