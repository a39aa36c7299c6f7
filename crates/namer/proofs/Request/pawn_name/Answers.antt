-- The file, then both.
use Rattle.san.specs.CodeFitting.{board_with}
use Rattle.namer.proofs.Finds.{stays, goes_on}
use Rattle.namer.proofs.Naming.{pawn_names}
use Rattle.namer.proofs.Request.pawn_name.Goals as goal

pub returns-in-Some : goal.returns-in-Some
returns-in-Some c =
    let a = c.args.self in
    rw (pawn_names a.standard (board_with a.side a.pieces.now) a.moves.now a.m, stays c.in-Some.ensures.0) c.in-Some.ensures

pub returns : goal.returns
returns c =
    let a = c.args.self in
    rw (pawn_names a.standard (board_with a.side a.pieces.now) a.moves.now a.m, goes_on c.in_default.ensures) c.try_text-2.ensures
