-- `mark_of` of marks.rt meets its contract: r ≡ byte_mark b.
use borrow.Author.Tests.{le-leb, lt-leb, ne_eqb}
use mathlib.Core.Path.{sym, ap}
use native.Mathlib.Omega.{arith}
use Prim.Native.Nat.{◌≤◌}
use Rattle.square.specs.Piece.{piece_of}
use Rattle.fen_reader.specs.CodeMarks.{byte_mark}
use Rattle.fen_reader.proofs.ByteMarks.{mark_digit}
use Rattle.fen_reader.proofs.marks.mark_of.Goals as goal

pub returns-in-47 : goal.returns-in-47
unfolding byte_mark piece_of
returns-in-47 c = sym (ap byte_mark c.in-47.is)

pub returns-in-80 : goal.returns-in-80
unfolding byte_mark piece_of
returns-in-80 c = sym (ap byte_mark c.in-80.is)

pub returns-in-78 : goal.returns-in-78
unfolding byte_mark piece_of
returns-in-78 c = sym (ap byte_mark c.in-78.is)

pub returns-in-66 : goal.returns-in-66
unfolding byte_mark piece_of
returns-in-66 c = sym (ap byte_mark c.in-66.is)

pub returns-in-82 : goal.returns-in-82
unfolding byte_mark piece_of
returns-in-82 c = sym (ap byte_mark c.in-82.is)

pub returns-in-81 : goal.returns-in-81
unfolding byte_mark piece_of
returns-in-81 c = sym (ap byte_mark c.in-81.is)

pub returns-in-75 : goal.returns-in-75
unfolding byte_mark piece_of
returns-in-75 c = sym (ap byte_mark c.in-75.is)

pub returns-in-112 : goal.returns-in-112
unfolding byte_mark piece_of
returns-in-112 c = sym (ap byte_mark c.in-112.is)

pub returns-in-110 : goal.returns-in-110
unfolding byte_mark piece_of
returns-in-110 c = sym (ap byte_mark c.in-110.is)

pub returns-in-98 : goal.returns-in-98
unfolding byte_mark piece_of
returns-in-98 c = sym (ap byte_mark c.in-98.is)

pub returns-in-114 : goal.returns-in-114
unfolding byte_mark piece_of
returns-in-114 c = sym (ap byte_mark c.in-114.is)

pub returns-in-113 : goal.returns-in-113
unfolding byte_mark piece_of
returns-in-113 c = sym (ap byte_mark c.in-113.is)

pub returns-in-107 : goal.returns-in-107
unfolding byte_mark piece_of
returns-in-107 c = sym (ap byte_mark c.in-107.is)

pub returns-in-49-to-56 : goal.returns-in-49-to-56
returns-in-49-to-56 c =
    let b = c.args.b in
    let h : b ≤ 56 = omega arith in
    sym (mark_digit b c.in-49-to-56.if-b-lt49-own.false h)

pub returns-in_default : goal.returns-in_default
unfolding byte_mark piece_of
returns-in_default c =
    let black = c.in_default.in_default-own.rest in
    let white = black.0.0.0.0.0.0 in
    simp (
      lt-leb 49 _ c.in_default.if-b-lt49-own.true,
      ne_eqb _ 47 white.0.0.0.0.0.0.1,
      ne_eqb _ 80 white.0.0.0.0.0.1,
      ne_eqb _ 78 white.0.0.0.0.1,
      ne_eqb _ 66 white.0.0.0.1,
      ne_eqb _ 82 white.0.0.1,
      ne_eqb _ 81 white.0.1,
      ne_eqb _ 75 white.1,
      ne_eqb _ 112 black.0.0.0.0.0.1,
      ne_eqb _ 110 black.0.0.0.0.1,
      ne_eqb _ 98 black.0.0.0.1,
      ne_eqb _ 114 black.0.0.1,
      ne_eqb _ 113 black.0.1,
      ne_eqb _ 107 black.1,
    )

pub returns-in_default-2 : goal.returns-in_default-2
unfolding byte_mark piece_of
returns-in_default-2 c =
    let black = c.in_default.in_default-own.rest in
    let white = black.0.0.0.0.0.0 in
    simp (
      le-leb 49 _ c.in_default.if-b-lt49-own.false,
      lt-leb _ 56 c.in_default.if-b-lt57-own.false,
      ne_eqb _ 47 white.0.0.0.0.0.0.1,
      ne_eqb _ 80 white.0.0.0.0.0.1,
      ne_eqb _ 78 white.0.0.0.0.1,
      ne_eqb _ 66 white.0.0.0.1,
      ne_eqb _ 82 white.0.0.1,
      ne_eqb _ 81 white.0.1,
      ne_eqb _ 75 white.1,
      ne_eqb _ 112 black.0.0.0.0.0.1,
      ne_eqb _ 110 black.0.0.0.0.1,
      ne_eqb _ 98 black.0.0.0.1,
      ne_eqb _ 114 black.0.0.1,
      ne_eqb _ 113 black.0.1,
      ne_eqb _ 107 black.1,
    )
