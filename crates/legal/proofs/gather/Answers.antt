use borrow.Author.Rules.{rules}
use mathlib.Core.Path.{◌≡◌, ◌∙◌}
use native.Mathlib.Omega.{arith}
use Prim.Native.Nat.{◌%◌}
use Rattle.move_laws.specs.Legal.{legal_moves}
use Rattle.legal.proofs.Room.{count_last, room_last, counted_under}
use Rattle.legal.proofs.Skipping.{count_skip, room_skip}
use Rattle.legal.specs.CodeList.{count_from, filled_from}
use Rattle.legal.proofs.gather.Goals as goal

pub loop-m-preserved : goal.loop-m-preserved
loop-m-preserved c =
    let b = c.args.p.now.board in
    let asked = c.numbers_asked-asked in
    let at = c.loop-m in
    let legal = c.is_legal-legal in
    let kept = c.keep-count in
    let w = at.invariant.skips.each (at.m % 64) (omega arith) (omega arith) in record {
      skips = at.invariant.skips;
      under = (let z = counted_under at.count legal.result at.invariant.under in omega (arith, z, kept.ensures.count));
      counted = count_skip b asked.result at.count at.m _ legal.result kept.result (count_from 0 (legal_moves b)) w
          c.loop-m-test.true legal.ensures kept.ensures.count at.invariant.counted;
      filled = room_skip b asked.result at.room at.count at.m _ legal.result kept.result _ (filled_from c.args.room.now 0 (legal_moves b)) w
          c.loop-m-test.true legal.ensures kept.ensures.count kept.ensures.room at.invariant.filled;
    }

pub returns-then-count-gt255 : goal.returns-then-count-gt255
returns-then-count-gt255 c =
    let b = c.args.p.now.board in
    let asked = c.numbers_asked-asked in
    let at = c.loop-m in
    let full : 256 ≡ at.count = omega (arith, at.invariant.under) in record {
      count = full ∙ count_last b asked.result at.count at.m (count_from 0 (legal_moves b)) c.loop-m-test.false at.invariant.counted;
      few = search rules;
      room = room_last b asked.result at.room at.count at.m (filled_from c.args.room.now 0 (legal_moves b)) c.loop-m-test.false at.invariant.filled;
    }

pub returns : goal.returns
returns c =
    let b = c.args.p.now.board in
    let asked = c.numbers_asked-asked in
    let at = c.loop-m in record {
      count = count_last b asked.result at.count at.m (count_from 0 (legal_moves b)) c.loop-m-test.false at.invariant.counted;
      few = omega arith;
      room = room_last b asked.result at.room at.count at.m (filled_from c.args.room.now 0 (legal_moves b)) c.loop-m-test.false at.invariant.filled;
    }
