use mathlib.Core.Path.{◌≡◌, sym, ◌∙◌}
use native.Mathlib.Omega.{arith}
use Prim.Native.Nat.{◌<◌}
use lib.ListN.{length, get_or}
use Rattle.fen_text.specs.Placement.{is_no_sign}
use Rattle.fen_text.proofs.Tokens.{where_hit, where_miss, where_end}
use Rattle.fen_reader.proofs.ByteMarks.{mark_bad, mark_good}
use Rattle.fen_reader.proofs.placement.first_bad.Goals as goal

pub returns-then-mark_of : goal.returns-then-mark_of
returns-then-mark_of c =
    let s = c.args.token.now in
    let i = c.loop-i.i in
    let byte : get_or s i 0 < 256 = omega arith in
    sym
    (c.loop-i.invariant
    ∙ where_hit is_no_sign s i c.loop-i-test.true (mark_bad (get_or s i 0) c.mark_of.result byte c.mark_of.ensures c.if-mark_of.true))

pub loop-i-preserved : goal.loop-i-preserved
loop-i-preserved c =
    let s = c.args.token.now in
    let i = c.loop-i.i in
    let byte : get_or s i 0 < 256 = omega arith in
    c.loop-i.invariant
    ∙ where_miss is_no_sign s i c.loop-i-test.true (mark_good (get_or s i 0) c.mark_of.result byte c.mark_of.ensures c.if-mark_of.false)

pub returns : goal.returns
returns c =
    let end : c.loop-i.i ≡ length c.args.token.now = omega (arith, c.loop-i-test.false) in
    sym (c.loop-i.invariant ∙ where_end _ c.args.token.now c.loop-i.i c.loop-i-test.false ∙ end)
