-- `pawn_attacks` of lib.rt meets its contract: r ≡ pawn_attacks side s t.
use mathlib.Core.Path.{sym, ◌∙◌}
use Rattle.move_laws.specs.Attack.{pawn_attacks}
use Rattle.legal.proofs.pawn_attacks.Goals as goal

pub returns-then-not-ahead : goal.returns-then-not-ahead
unfolding pawn_attacks
returns-then-not-ahead c = simp (sym c.ahead.ensures ∙ c.if-not-ahead.true)

pub returns : goal.returns
unfolding pawn_attacks
returns c = simp (sym c.ahead.ensures ∙ c.if-not-ahead.false, c.files_apart.ensures)
