-- `pawn_takes` of lib.rt meets its contract: r ≡ pawn_captures (now squares.entry) side s t.
use mathlib.Core.Path.{sym, ◌∙◌}
use Rattle.move_laws.specs.Move.{pawn_captures}
use Rattle.legal.proofs.pawn_takes.Goals as goal

pub returns-then-not-pawn_attacks : goal.returns-then-not-pawn_attacks
unfolding pawn_captures
returns-then-not-pawn_attacks c = simp (sym c.pawn_attacks.ensures ∙ c.if-not-pawn_attacks.true)

pub returns : goal.returns
unfolding pawn_captures
returns c =
    let at-pawn-attacks = c.pawn_attacks in
    let at-if1 = c.if-not-pawn_attacks in
    c.may_take.ensures ∙ simp (sym at-pawn-attacks.ensures ∙ at-if1.false)
