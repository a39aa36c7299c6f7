-- `kind_attacks` of lib.rt meets its contract: r ≡ kind_attacks (now squares.entry) side kind s t.
use native.Mathlib.Omega.{arith}
use borrow.Author.Tests.{ne_eqb}
use mathlib.Core.Path.{sym, ◌∙◌}
use Rattle.move_laws.specs.Apart.{file_or_rank, diagonal}
use Rattle.move_laws.specs.Attack.{bishop_attacks, rook_attacks, queen_attacks, kind_attacks}
use Rattle.legal.specs.CodeList.{on_line}
use Rattle.legal.proofs.Lines.{straight_apart, diagonal_apart, line_apart, either_clear}
use Rattle.legal.proofs.kind_attacks.Goals as goal

pub slides-requires : goal.slides-requires
slides-requires c = λ e. diagonal_apart c.args.way.source c.args.way.dest (sym c.diagonal.ensures ∙ e)

pub slides-requires-in-4 : goal.slides-requires-in-4
slides-requires-in-4 c = λ e. straight_apart c.args.way.source c.args.way.dest (sym c.straight.ensures ∙ e)

pub slides-requires-in-5 : goal.slides-requires-in-5
slides-requires-in-5 c = λ e. line_apart c.args.way.source c.args.way.dest (sym c.on_line.ensures ∙ e)

pub returns-in-1 : goal.returns-in-1
unfolding kind_attacks
returns-in-1 c = rw c.in-1.is c.pawn_attacks.ensures

pub returns-in-2 : goal.returns-in-2
unfolding kind_attacks
returns-in-2 c = rw c.in-2.is c.knights_move.ensures

pub returns-in-3 : goal.returns-in-3
unfolding kind_attacks bishop_attacks
returns-in-3 c = rw c.in-3.is (rw c.diagonal.ensures at c.slides.ensures)

pub returns-in-4 : goal.returns-in-4
unfolding kind_attacks rook_attacks
returns-in-4 c = rw c.in-4.is (rw c.straight.ensures at c.slides-in-4.ensures)

pub returns-in-5 : goal.returns-in-5
unfolding kind_attacks queen_attacks rook_attacks bishop_attacks on_line
returns-in-5 c =
    let way = c.args.way in
    rw c.in-5.is (rw c.on_line.ensures at c.slides-in-5.ensures ∙ either_clear (file_or_rank way.source way.dest) (diagonal way.source way.dest) _)

pub returns-in-6 : goal.returns-in-6
unfolding kind_attacks
returns-in-6 c = rw c.in-6.is c.adjoining.ensures

pub returns-in_default : goal.returns-in_default
unfolding kind_attacks
returns-in_default c =
    simp (
      ne_eqb c.args.kind 1 (omega arith),
      ne_eqb c.args.kind 2 (omega arith),
      ne_eqb c.args.kind 3 (omega arith),
      ne_eqb c.args.kind 4 (omega arith),
      ne_eqb c.args.kind 5 (omega arith),
      ne_eqb c.args.kind 6 (omega arith),
    )
