-- `castling_text` of lib.rt meets its contract: Found (castling_name side m) (now bytes.exit) r.
use mathlib.Core.Path.{refl}
use native.Mathlib.Omega.{arith}
use borrow.Author.Tests.{eq-eqb, ne_eqb}
use lib.Dec.{lit≤}
use Rattle.san_text.specs.Text.{king_side_text, queen_side_text}
use Rattle.san_text.specs.Name.{castling_name}
use Rattle.namer.proofs.Finds.{found_written}
use Rattle.namer.proofs.castling_text.Goals as goal

pub returns-then-castling_move-m : goal.returns-then-castling_move-m
unfolding castling_name
returns-then-castling_move-m c =
    let a = c.args in
    let at-castling-move = c.castling_move in
    let at-if1 = c.if-castling_move-m in
    let at-write-text = c.write_text in
    rw (← at-castling-move.ensures, eq-eqb _ _ at-if1.true)
    (found_written king_side_text a.bytes.now _ (lit≤ tt, lit≤ tt) (omega arith) at-write-text.ensures.bytes)

pub returns-then-castling_move-m-2 : goal.returns-then-castling_move-m-2
unfolding castling_name
returns-then-castling_move-m-2 c =
    let a = c.args in
    let at-castling-move = c.castling_move in
    let at-if1 = c.if-castling_move-m in
    let at-castling-move2 = c.castling_move-2 in
    let at-if2 = c.if-castling_move-m-2 in
    let at-write-text2 = c.write_text-then-castling_move-m-2 in
    rw (← at-castling-move.ensures, ne_eqb _ _ at-if1.false, ← at-castling-move2.ensures, eq-eqb _ _ at-if2.true)
    (found_written queen_side_text a.bytes.now _ (lit≤ tt, lit≤ tt) (omega arith) at-write-text2.ensures.bytes)

pub returns : goal.returns
unfolding castling_name
returns c =
    let a = c.args in
    let at-castling-move = c.castling_move in
    let at-if1 = c.if-castling_move-m in
    let at-castling-move2 = c.castling_move-2 in
    rw (← at-castling-move.ensures, ne_eqb _ _ at-if1.false, ← at-castling-move2.ensures, ne_eqb _ _ c.if-castling_move-m-2.false)
    refl
