-- `captures` of resolve.rt meets its contract: r ≡ formOf standard .captures (now pieces.entry) t m.
use Rattle.san.proofs.Captures.{captures_other, captures_pawn}
use Rattle.san.proofs.resolve.captures.Goals as goal

pub returns-then-t-ne1 : goal.returns-then-t-ne1
returns-then-t-ne1 c =
    let a = c.args in
    let at_pre = c.requires in
    let at-dest-of = c.dest_of-dest in
    let at_both = c.both-marked in
    let at-if1 = c.if-t-ne1 in
    let at-either = c.either in
    simp (
      c.choose.ensures,
      at-either.ensures,
      at_both.ensures,
      at-dest-of.ensures,
      captures_other a.standard a.pieces.now a.t a.m (at_pre)
          at-if1.true,
    )

pub returns : goal.returns
returns c =
    let a = c.args in
    let at_pre = c.requires in
    let at-dest-of = c.dest_of-dest in
    let at_both = c.both-marked in
    let at-if1 = c.if-t-ne1 in
    let at-source-of = c.source_of-source in
    let at-both2 = c.both in
    let at-either2 = c.either-takes in
    let at-either3 = c.either-sourced in
    let at-both3 = c.both-2 in
    let at-either4 = c.either-2 in
    simp (
      c.choose-2.ensures,
      at-either4.ensures,
      at-both3.ensures,
      at-either3.ensures,
      at-either2.ensures,
      at-both2.ensures,
      at_both.ensures,
      at-dest-of.ensures,
      at-source-of.ensures,
      captures_pawn a.standard a.pieces.now a.t a.m (at_pre) at-if1.false,
    )
