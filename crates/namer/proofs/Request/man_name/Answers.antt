-- None, file, rank, both.
use Rattle.san.specs.CodeFitting.{board_with}
use Rattle.namer.proofs.Finds.{stays, goes_on}
use Rattle.namer.proofs.Naming.{man_names}
use Rattle.namer.proofs.Request.man_name.Goals as goal

pub returns-in-Some : goal.returns-in-Some
returns-in-Some c =
    let a = c.args.self in
    rw (man_names a.standard (board_with a.side a.pieces.now) a.moves.now a.m, stays c.in-Some.ensures.0) c.in-Some.ensures

pub returns-in-Some-try_text : goal.returns-in-Some-try_text
returns-in-Some-try_text c =
    let a = c.args.self in
    rw (
      man_names a.standard (board_with a.side a.pieces.now) a.moves.now a.m,
      goes_on c.in_default.ensures,
      stays c.in-Some-try_text.ensures.0,
    ) c.in-Some-try_text.ensures

pub returns-in-Some-try_text-2 : goal.returns-in-Some-try_text-2
returns-in-Some-try_text-2 c =
    let a = c.args.self in
    rw (
      man_names a.standard (board_with a.side a.pieces.now) a.moves.now a.m,
      goes_on c.in_default.ensures,
      goes_on c.in_default-try_text.ensures,
      stays c.in-Some-try_text-2.ensures.0,
    ) c.in-Some-try_text-2.ensures

pub returns : goal.returns
returns c =
    let a = c.args.self in
    rw (
      man_names a.standard (board_with a.side a.pieces.now) a.moves.now a.m,
      goes_on c.in_default.ensures,
      goes_on c.in_default-try_text.ensures,
      goes_on c.in_default-try_text-2.ensures,
    ) c.try_text-4.ensures
