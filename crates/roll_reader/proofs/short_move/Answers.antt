-- `short_move` of lib.rt meets its contract: ShortMove (now s.entry) at left r.
use native.Mathlib.Omega.{arith}
use Rattle.roll_reader.proofs.Short.{no_short_lem, short}
use Rattle.roll_reader.proofs.short_move.Goals as goal

pub returns : goal.returns
returns c =
    let a = c.args in
    let at-if2 = c.if-s-lt3 in
    let at-if4 = c.if-s-at-ne-MOVE_BYTE in
    short a.s.now a.at a.left c.if-left-eq0.false (omega (
      arith,
      at-if2.false,
      c.if-s-at.false,
    )) at-if4.false c.if-low-lt128.false (omega (arith, c.if-high-gt127.false)) (λ z. omega arith)
