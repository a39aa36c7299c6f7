-- The loop: with what is left from place i on, f has the count and the first of the entries that fit in the whole list; its count is at most i.
-- An entry that arrives elsewhere is passed over, since it cannot fit; of one that arrives only the source is looked at.
use Rattle.san_text.specs.Resolve.{fits}
use Rattle.san.proofs.Counts.{CountedTo}
use Rattle.san.proofs.resolve.count_fits.Given as goal

abbrev pub invariant-loop-m : goal.invariant-loop-m
invariant-loop-m l = CountedTo (fits l.pieces l.t) l.moves l.m-index l.f
