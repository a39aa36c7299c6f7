-- The king's text, the first that names the move, and the last resort.
use Rattle.san.specs.CodeFitting.{board_with}
use Rattle.namer.proofs.Finds.{stays, goes_on}
use Rattle.namer.proofs.Naming.{name_parts, resort_castling, resort_none}
use Rattle.namer.proofs.Request.name_of.Goals as goal

pub returns-in-Some : goal.returns-in-Some
returns-in-Some c =
    let a = c.args.self in
    rw (name_parts a.standard (board_with a.side a.pieces.now) a.moves.now a.m, stays c.in-Some.ensures.0) c.in-Some.ensures

pub returns-in-Some-other_name : goal.returns-in-Some-other_name
returns-in-Some-other_name c =
    let a = c.args.self in
    rw (
      name_parts a.standard (board_with a.side a.pieces.now) a.moves.now a.m,
      goes_on c.in_default.ensures,
      stays c.in-Some-other_name.ensures.0,
    ) c.in-Some-other_name.ensures

pub returns-then-self : goal.returns-then-self
returns-then-self c =
    let a = c.args.self in
    let b = board_with a.side a.pieces.now in
    rw (
      name_parts a.standard b a.moves.now a.m,
      goes_on c.in_default.ensures,
      goes_on c.in_default-other_name.ensures,
      resort_none a.standard b a.moves.now a.m c.if-self.true,
    )

pub returns : goal.returns
returns c =
    let a = c.args.self in
    let b = board_with a.side a.pieces.now in
    rw (
      name_parts a.standard b a.moves.now a.m,
      goes_on c.in_default.ensures,
      goes_on c.in_default-other_name.ensures,
      resort_castling a.standard b a.moves.now a.m c.if-self.false,
    ) c.castling_text.ensures
