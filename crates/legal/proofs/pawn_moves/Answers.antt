-- `pawn_moves` of lib.rt meets its contract: r ≡ pawn_moves (now squares.entry) side marked s t.
use mathlib.Core.Path.{sym, ◌∙◌}
use Rattle.move_laws.specs.Move.{pawn_moves}
use Rattle.legal.proofs.pawn_moves.Goals as goal

pub returns-then-pawn_steps : goal.returns-then-pawn_steps
unfolding pawn_moves
returns-then-pawn_steps c = simp (sym c.pawn_steps.ensures ∙ c.if-pawn_steps.true)

pub returns-then-pawn_steps_twice : goal.returns-then-pawn_steps_twice
unfolding pawn_moves
returns-then-pawn_steps_twice c =
    let at-pawn-steps = c.pawn_steps in
    let at-if1 = c.if-pawn_steps in
    let at-pawn-steps-twice = c.pawn_steps_twice in
    simp (sym at-pawn-steps.ensures ∙ at-if1.false, sym at-pawn-steps-twice.ensures ∙ c.if-pawn_steps_twice.true)

pub returns-then-pawn_takes : goal.returns-then-pawn_takes
unfolding pawn_moves
returns-then-pawn_takes c =
    let at-pawn-steps = c.pawn_steps in
    let at-if1 = c.if-pawn_steps in
    let at-pawn-steps-twice = c.pawn_steps_twice in
    let at-if2 = c.if-pawn_steps_twice in
    let at-pawn-takes = c.pawn_takes in
    simp (sym at-pawn-steps.ensures ∙ at-if1.false, sym at-pawn-steps-twice.ensures ∙ at-if2.false, sym at-pawn-takes.ensures ∙ c.if-pawn_takes.true)

pub returns : goal.returns
unfolding pawn_moves
returns c =
    let at-pawn-steps = c.pawn_steps in
    let at-if1 = c.if-pawn_steps in
    let at-pawn-steps-twice = c.pawn_steps_twice in
    let at-if2 = c.if-pawn_steps_twice in
    let at-pawn-takes = c.pawn_takes in
    let at-if3 = c.if-pawn_takes in
    c.pawn_passes.ensures
    ∙ simp (sym at-pawn-steps.ensures ∙ at-if1.false, sym at-pawn-steps-twice.ensures ∙ at-if2.false, sym at-pawn-takes.ensures ∙ at-if3.false)
