use borrow.Author.Rules.{rules}
use native.Mathlib.Omega.{arith}
use lib.Dec.{lit<}
use Rattle.fen_text.proofs.Lengths.{ranks_long}
use Rattle.fen_writer.proofs.Ranks.{ranks_turn, ranks_room, ranks_end}
use Rattle.fen_writer.proofs.text.ranks.Goals as goal

pub rank-n-requires : goal.rank-n-requires
rank-n-requires c =
    let r = c.loop-left.invariant in
    let room = ranks_long 7 c.args.pieces.now (search rules) (lit< tt) in
    record { at_bound = omega (arith, r.count, room.high); pieces_value = c.requires; from_bound = omega arith }

pub push_if-n-requires : goal.push_if-n-requires
push_if-n-requires c =
    let room = ranks_long 7 c.args.pieces.now (search rules) (lit< tt) in
    let most = ranks_room c.loop-left.invariant c.loop-left-test.true c.rank-n.ensures in
    omega (arith, room.high, most)

pub loop-left-preserved : goal.loop-left-preserved
loop-left-preserved c = ranks_turn c.loop-left.invariant c.loop-left-test.true c.rank-n.ensures c.push_if-n.ensures

pub returns : goal.returns
returns c = ranks_end c.loop-left.invariant c.loop-left-test.false c.args.bytes.now
