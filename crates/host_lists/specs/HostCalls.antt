-- The host's calls of document 02, order 13: `menkhodur_san_read`, `menkhodur_san_name` and the two of the standard's form. A call is its arguments, its
-- result and what is lent as it is at exit, with what the function's contract says about them, as the toolchain reads it off the source (`Reads.Learnt`).
-- Assumes nothing.
use Rattle.std.specs.Prelude.{ℕ, List}
use contract.Lifetimes.{Lfts}
use borrow.Fn.Kinds.{Dens, res_t, ended_of, Out, ParamKind, ResultKind}
use denote.Triple.Clauses.{AtExit}
use Rattle.answer.specs.declared.Answer.{Answer}
use Rattle.board_builder.specs.declared.BoardBuilder.{BoardBuilder}
use Rattle.menkhodur.proofs.menkhodur_san_read.Kinds as reader
use Rattle.menkhodur.proofs.menkhodur_san_name.Kinds as namer

pub record HostCall {n : ℕ} (ps : List (ParamKind n)) (r : ResultKind n) (Learnt : Out n ps r) : Type 0 where
  pub lifetimes : Lfts n
  pub given : Dens lifetimes ps
  pub result : (res_t r lifetimes).Denot
  pub left : AtExit (ended_of n ps r) lifetimes
  pub learnt : Learnt lifetimes given result left

-- ---- a reader's: `(board, list, text) -> Answer`

-- what a reader's contract says
abbrev pub Reading : Type 1
Reading = Out 2 reader.ps reader.r

abbrev pub ReadCall : Reading → Type 0
ReadCall Learnt = HostCall reader.ps reader.r Learnt

module _ {Learnt : Reading} where
  abbrev pub read_board : ReadCall Learnt → BoardBuilder
  read_board c = c.given.0

  abbrev pub read_list : ReadCall Learnt → List ℕ
  read_list c = c.given.1.0.now

  abbrev pub text_to_read : ReadCall Learnt → List ℕ
  text_to_read c = c.given.1.1.0.now

  abbrev pub san_read : ReadCall Learnt → Answer
  san_read c = c.result

-- ---- a namer's: `(board, list, move, out) -> Answer`

abbrev pub Naming : Type 1
Naming = Out 2 namer.ps namer.r

abbrev pub NameCall : Naming → Type 0
NameCall Learnt = HostCall namer.ps namer.r Learnt

module _ {Learnt : Naming} where
  abbrev pub name_board : NameCall Learnt → BoardBuilder
  name_board c = c.given.0

  abbrev pub name_list : NameCall Learnt → List ℕ
  name_list c = c.given.1.0.now

  abbrev pub name_move : NameCall Learnt → ℕ
  name_move c = c.given.1.1.0

  abbrev pub san_named : NameCall Learnt → Answer
  san_named c = c.result

  -- the room as it was lent, and as it is at exit
  abbrev pub room_lent : NameCall Learnt → List ℕ
  room_lent c = c.given.1.1.1.0.now

  abbrev pub room_left : NameCall Learnt → List ℕ
  room_left c = c.left.1.1.1.0.now
