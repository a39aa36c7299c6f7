use native.Mathlib.Omega.{arith}
use lib.Dec.{eqb}
use lib.ListN.{get_or}
use Rattle.fen_text.specs.Lines.{line_feed}
use Rattle.fen_text.proofs.Lines.{ended_turn, ended_end}
use Rattle.fen_reader.proofs.Seen.{one_of, one_at_most}
use Rattle.fen_reader.proofs.lines.newlines_in.Goals as goal

pub loop-b-preserved : goal.loop-b-preserved
loop-b-preserved c =
    let at-loop = c.loop-b in
    let s = c.args.block.now in
    let i = at-loop.b-index in
    let here = eqb (get_or s i 0) line_feed in
    let turn = ended_turn s i c.loop-b-test.true in
    let one = one_of here in
    let most = one_at_most here in
    (omega (arith, at-loop.invariant.0, c.from-n.ensures), omega (arith, at-loop.invariant.1, turn, c.from-n.ensures))

pub returns : goal.returns
returns c = omega (arith, c.loop-b.invariant.1, ended_end c.args.block.now c.loop-b.b-index c.loop-b-test.false)
