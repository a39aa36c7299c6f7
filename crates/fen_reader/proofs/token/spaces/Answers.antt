use native.Mathlib.Omega.{arith}
use lib.Dec.{eqb}
use lib.ListN.{get_or}
use Rattle.fen_text.proofs.Tokens.{count_turn, count_end}
use Rattle.fen_reader.proofs.Seen.{one_of, one_at_most}
use Rattle.fen_reader.proofs.token.spaces.Goals as goal

pub loop-x-preserved : goal.loop-x-preserved
loop-x-preserved c =
    let at-loop = c.loop-x in
    let s = c.args.s.now in
    let i = at-loop.x-index in
    let here = eqb (get_or s i 0) 32 in
    let turn = count_turn s i c.loop-x-test.true in
    let one = one_of here in
    let most = one_at_most here in
    (omega (arith, at-loop.invariant.0, c.from-n.ensures), omega (arith, at-loop.invariant.1, turn, c.from-n.ensures))

pub returns : goal.returns
returns c = omega (arith, c.loop-x.invariant.1, count_end c.args.s.now c.loop-x.x-index c.loop-x-test.false)
