-- Together with its recursion, `put_groups` of lib.rt meets its contract: result ≡ at + length (groups k n); out.new ≡ written out.old at (groups k n).
-- Assumes nothing.
use mathlib.Core.Path.{ap}
use native.Mathlib.Omega.{arith}
use lib.ListN.{length, length-set}
use Rattle.answer.proofs.Parts.{set_written}
use Rattle.roll_writer.proofs.Laws.{one_group, group_and_more, reach_next, put_done}
use Rattle.roll_writer.proofs.+put_groups.Goals as goal

pub bounds-out-at : goal.bounds-out-at
bounds-out-at t c =
    let e = ap length (one_group c.args.k c.args.n c.requires.le_k.0 c.if-n-lt128.true) in
    omega (arith, e, c.requires.n_in_bounds)

pub returns-then-n-lt128 : goal.returns-then-n-lt128
returns-then-n-lt128 t c =
    let e = one_group c.args.k c.args.n c.requires.le_k.0 c.if-n-lt128.true in record {
      end = rw e;
      bytes = rw e (set_written c.args.out.now c.args.at c.args.n (omega (arith, ap length e, c.requires.n_in_bounds)));
    }

pub bounds-out-at-2 : goal.bounds-out-at-2
bounds-out-at-2 t c =
    let e = ap length (group_and_more c.args.k c.args.n c.requires.le_k.0 c.if-n-lt128.false) in
    omega (arith, e, c.requires.n_in_bounds)

pub put_groups-requires : goal.put_groups-requires
put_groups-requires t c =
    let e = ap length (group_and_more c.args.k c.args.n c.requires.le_k.0 c.if-n-lt128.false) in
    let h = reach_next c.args.k c.args.n c.requires.le_k.1 c.if-n-lt128.false in
    (omega (arith, c.decreases, c.requires.le_k.0), (h, simp length-set (omega (arith, e, c.requires.n_in_bounds))))

pub returns : goal.returns
returns t c =
    let w =
    put_done c.args.out.now c.args.at c.args.k c.args.n c.put_groups.new.out c.requires.le_k.0 c.if-n-lt128.false c.requires.n_in_bounds
    c.put_groups.ensures.bytes in
    let e = ap length (group_and_more c.args.k c.args.n c.requires.le_k.0 c.if-n-lt128.false) in record {
      end = omega (arith, e, c.put_groups.ensures.end);
      bytes = w;
    }
