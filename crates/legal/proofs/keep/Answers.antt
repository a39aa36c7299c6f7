-- `keep` of lib.rt meets its contract: r ≡ cond legal (counted_to count) count; now room.exit ≡ cond legal (put_at (now room.entry) count m) (now
-- room.entry).
use borrow.Author.Tests.{le-leb, lt-leb}
use Rattle.legal.specs.CodeList.{counted_to, put_at}
use Rattle.legal.proofs.keep.Goals as goal

pub returns-then-count-ge255 : goal.returns-then-count-ge255
unfolding counted_to put_at
returns-then-count-ge255 c =
    let at-if1 = c.if-not-legal in
    record { count = simp (at-if1.false, le-leb _ _ c.if-count-ge255.true); room = simp (at-if1.false, le-leb _ _ c.if-count-ge255.true) }

pub returns : goal.returns
unfolding counted_to put_at
returns c =
    let at-if1 = c.if-not-legal in
    record { count = simp (at-if1.false, lt-leb _ _ c.if-count-ge255.false); room = simp (at-if1.false, lt-leb _ _ c.if-count-ge255.false) }
