-- `square::letter_of_piece` meets its contract: each arm's number is what `letter_of` computes at its key, and the default is none of the keys.
-- Assumes nothing.
use mathlib.Core.Path.{sym, ap}
use borrow.Author.Tests.{ne_eqb}
use Rattle.square.specs.Piece.{letter_of}
use Rattle.square.proofs.letter_of_piece.Goals as goal

pub returns-in-1 : goal.returns-in-1
unfolding letter_of
returns-in-1 c = sym (ap letter_of c.in-1.is)

pub returns-in-2 : goal.returns-in-2
unfolding letter_of
returns-in-2 c = sym (ap letter_of c.in-2.is)

pub returns-in-3 : goal.returns-in-3
unfolding letter_of
returns-in-3 c = sym (ap letter_of c.in-3.is)

pub returns-in-4 : goal.returns-in-4
unfolding letter_of
returns-in-4 c = sym (ap letter_of c.in-4.is)

pub returns-in-5 : goal.returns-in-5
unfolding letter_of
returns-in-5 c = sym (ap letter_of c.in-5.is)

pub returns-in-6 : goal.returns-in-6
unfolding letter_of
returns-in-6 c = sym (ap letter_of c.in-6.is)

pub returns-in-7 : goal.returns-in-7
unfolding letter_of
returns-in-7 c = sym (ap letter_of c.in-7.is)

pub returns-in-8 : goal.returns-in-8
unfolding letter_of
returns-in-8 c = sym (ap letter_of c.in-8.is)

pub returns-in-9 : goal.returns-in-9
unfolding letter_of
returns-in-9 c = sym (ap letter_of c.in-9.is)

pub returns-in-10 : goal.returns-in-10
unfolding letter_of
returns-in-10 c = sym (ap letter_of c.in-10.is)

pub returns-in-11 : goal.returns-in-11
unfolding letter_of
returns-in-11 c = sym (ap letter_of c.in-11.is)

pub returns-in-12 : goal.returns-in-12
unfolding letter_of
returns-in-12 c = sym (ap letter_of c.in-12.is)

pub returns-in_default : goal.returns-in_default
unfolding letter_of
returns-in_default c =
    let last = c.in_default.in_default-own.rest in
    let first = last.0.0.0.0.0.0 in
    simp (
      ne_eqb _ _ first.0.0.0.0.0.1,
      ne_eqb _ _ first.0.0.0.0.1,
      ne_eqb _ _ first.0.0.0.1,
      ne_eqb _ _ first.0.0.1,
      ne_eqb _ _ first.0.1,
      ne_eqb _ _ first.1,
      ne_eqb _ _ last.0.0.0.0.0.1,
      ne_eqb _ _ last.0.0.0.0.1,
      ne_eqb _ _ last.0.0.0.1,
      ne_eqb _ _ last.0.0.1,
      ne_eqb _ _ last.0.1,
      ne_eqb _ _ last.1,
    )
