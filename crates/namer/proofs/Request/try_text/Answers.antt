-- A text that is tried: it is found if it is read as the move.
use native.Mathlib.Omega.{arith}
use Rattle.namer.proofs.Trying.{text_in_room, try_refused, try_other, try_named}
use Rattle.san.specs.CodeFitting.{board_with}
use Rattle.namer.proofs.Request.try_text.Goals as goal

pub shared_ref_as_front-from_san_in : goal.shared_ref_as_front-from_san_in
shared_ref_as_front-from_san_in c =
    let a = c.args in
    let i = text_in_room a.self.standard a.self.pieces.now a.self.m a.file a.rank a.bytes.now _ c.write_in-written.result (omega arith)
    c.write_in-written.ensures.answer c.write_in-written.ensures.bytes in
    omega (arith, i.most, i.count)

pub returns-then-read-ne-ACCEPTED : goal.returns-then-read-ne-ACCEPTED
returns-then-read-ne-ACCEPTED c =
    let a = c.args in
    let i = text_in_room a.self.standard a.self.pieces.now a.self.m a.file a.rank a.bytes.now _ c.write_in-written.result (omega arith)
    c.write_in-written.ensures.answer c.write_in-written.ensures.bytes in
    try_refused a.self.standard (board_with a.self.side a.self.pieces.now) a.self.moves.now a.self.m a.self.moves_value i c.from_san_in-read.result
    c.from_san_in-read.ensures c.if-read-ne-ACCEPTED.true

pub returns-then-read-self : goal.returns-then-read-self
returns-then-read-self c =
    let a = c.args in
    let i = text_in_room a.self.standard a.self.pieces.now a.self.m a.file a.rank a.bytes.now _ c.write_in-written.result (omega arith)
    c.write_in-written.ensures.answer c.write_in-written.ensures.bytes in
    try_other a.self.standard (board_with a.self.side a.self.pieces.now) a.self.moves.now a.self.m a.self.moves_value i c.from_san_in-read.result
    c.from_san_in-read.ensures c.if-read-ne-ACCEPTED.false c.if-read-self.true

pub returns : goal.returns
returns c =
    let a = c.args in
    let i = text_in_room a.self.standard a.self.pieces.now a.self.m a.file a.rank a.bytes.now _ c.write_in-written.result (omega arith)
    c.write_in-written.ensures.answer c.write_in-written.ensures.bytes in
    try_named a.self.standard (board_with a.self.side a.self.pieces.now) a.self.moves.now a.self.m a.self.moves_value i c.from_san_in-read.result
    c.from_san_in-read.ensures c.if-read-ne-ACCEPTED.false c.if-read-self.false
