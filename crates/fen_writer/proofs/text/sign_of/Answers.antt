-- `sign_of` of text.rt meets its contract: each arm's number is what `sign_of` computes at its key, and the default is none of the keys.
-- Assumes nothing.
use mathlib.Core.Path.{sym, ap}
use Rattle.square.specs.Piece.{letter_of}
use Rattle.fen_writer.specs.CodeSigns.{sign_of}
use Rattle.fen_writer.proofs.text.sign_of.Goals as goal

pub returns-in-0 : goal.returns-in-0
unfolding sign_of letter_of
returns-in-0 c = sym (ap sign_of c.in-0.is)

pub returns-in-1 : goal.returns-in-1
unfolding sign_of letter_of
returns-in-1 c = sym (ap sign_of c.in-1.is)

pub returns-in-2 : goal.returns-in-2
unfolding sign_of letter_of
returns-in-2 c = sym (ap sign_of c.in-2.is)

pub returns-in-3 : goal.returns-in-3
unfolding sign_of letter_of
returns-in-3 c = sym (ap sign_of c.in-3.is)

pub returns-in-4 : goal.returns-in-4
unfolding sign_of letter_of
returns-in-4 c = sym (ap sign_of c.in-4.is)

pub returns-in-5 : goal.returns-in-5
unfolding sign_of letter_of
returns-in-5 c = sym (ap sign_of c.in-5.is)

pub returns-in-6 : goal.returns-in-6
unfolding sign_of letter_of
returns-in-6 c = sym (ap sign_of c.in-6.is)

pub returns-in-7 : goal.returns-in-7
unfolding sign_of letter_of
returns-in-7 c = sym (ap sign_of c.in-7.is)

pub returns-in-8 : goal.returns-in-8
unfolding sign_of letter_of
returns-in-8 c = sym (ap sign_of c.in-8.is)

pub returns-in-9 : goal.returns-in-9
unfolding sign_of letter_of
returns-in-9 c = sym (ap sign_of c.in-9.is)

pub returns-in-10 : goal.returns-in-10
unfolding sign_of letter_of
returns-in-10 c = sym (ap sign_of c.in-10.is)

pub returns-in-11 : goal.returns-in-11
unfolding sign_of letter_of
returns-in-11 c = sym (ap sign_of c.in-11.is)

pub returns-in-12 : goal.returns-in-12
unfolding sign_of letter_of
returns-in-12 c = sym (ap sign_of c.in-12.is)

pub returns-in-13 : goal.returns-in-13
unfolding sign_of letter_of
returns-in-13 c = sym (ap sign_of c.in-13.is)

pub returns-in-14 : goal.returns-in-14
unfolding sign_of letter_of
returns-in-14 c = sym (ap sign_of c.in-14.is)

pub returns-in-15 : goal.returns-in-15
unfolding sign_of letter_of
returns-in-15 c = sym (ap sign_of c.in-15.is)
