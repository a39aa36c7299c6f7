use native.Mathlib.Omega.{arith}
use lib.ListN.{get_or}
use Rattle.board_after.proofs.Differ.{differs_most, differing_turn, differing_end}
use Rattle.board_after.proofs.differing.Goals as goal

pub overflow_add-count : goal.overflow_add-count
overflow_add-count c =
    let a = c.args in
    let at = c.loop-i in
    omega (arith, c.differs-count.ensures, differs_most (get_or a.a.now at.i 0) (get_or a.b.now at.i 0))

pub loop-i-preserved : goal.loop-i-preserved
loop-i-preserved c =
    let a = c.args in
    let at = c.loop-i in
    let turn = differing_turn a.a.now a.b.now at.i (omega arith) (omega arith) in record {
      most = omega (arith, c.differs-count.ensures, differs_most (get_or a.a.now at.i 0) (get_or a.b.now at.i 0));
      counted = omega (arith, turn, c.differs-count.ensures);
    }

pub returns : goal.returns
returns c = omega (arith, differing_end c.args.a.now c.args.b.now c.loop-i.i (omega arith))
