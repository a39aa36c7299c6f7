-- `kind_moves` of lib.rt meets its contract: r ≡ kind_moves (now squares.entry) side rights marked kind s t.
use native.Mathlib.Omega.{arith}
use borrow.Author.Tests.{ne_eqb}
use mathlib.Core.Path.{◌∙◌}
use Rattle.move_laws.specs.Move.{kind_moves}
use Rattle.legal.proofs.kind_moves.Goals as goal

pub returns-in-1 : goal.returns-in-1
unfolding kind_moves
returns-in-1 c = rw c.in-1.is c.pawn_moves.ensures

pub returns-in-6 : goal.returns-in-6
unfolding kind_moves
returns-in-6 c = rw c.in-6.is (rw c.in-6.is at c.king_moves.ensures)

pub returns-in_default : goal.returns-in_default
unfolding kind_moves
returns-in_default c = c.piece_moves.ensures ∙ simp (ne_eqb c.args.kind 1 (omega arith), ne_eqb c.args.kind 6 (omega arith))
