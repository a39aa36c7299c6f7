-- `piece_moves` of lib.rt meets its contract: r ≡ piece_moves (now squares.entry) side kind s t.
use mathlib.Core.Path.{sym, ◌∙◌}
use Rattle.move_laws.specs.Move.{piece_moves}
use Rattle.legal.proofs.piece_moves.Goals as goal

pub returns-then-not-may_arrive : goal.returns-then-not-may_arrive
unfolding piece_moves
returns-then-not-may_arrive c = simp (sym c.may_arrive.ensures ∙ c.if-not-may_arrive.true)

pub returns : goal.returns
unfolding piece_moves
returns c =
    let at-may-arrive = c.may_arrive in
    let at-if1 = c.if-not-may_arrive in
    c.kind_attacks.ensures ∙ simp (sym at-may-arrive.ensures ∙ at-if1.false)
