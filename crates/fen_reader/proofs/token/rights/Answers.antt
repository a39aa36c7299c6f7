use mathlib.Core.Path.{◌∙◌}
use Rattle.fen_reader.proofs.Seen.{seen_step, rights_of_lem, both_sides}
use Rattle.fen_reader.proofs.token.rights.Goals as goal

pub loop-b-preserved : goal.loop-b-preserved
loop-b-preserved c =
    let s = c.args.token.now in
    let at = c.loop-b in
    let h = c.loop-b-test.true in (
      at.invariant.0 ∙ seen_step 75 at.white_king s at.b-index h,
      at.invariant.1 ∙ seen_step 81 at.white_queen s at.b-index h,
      at.invariant.2 ∙ seen_step 107 at.black_king s at.b-index h,
      at.invariant.3 ∙ seen_step 113 at.black_queen s at.b-index h,
    )

pub returns : goal.returns
returns c =
    let s = c.args.token.now in
    let l = c.loop-b in
    both_sides s
    (rights_of_lem 75 81 s l.b-index l.white_king l.white_queen _ _ c.loop-b-test.false l.invariant.0 l.invariant.1 c.from.ensures c.from-2.ensures)
    (rights_of_lem 107 113 s l.b-index l.black_king l.black_queen _ _ c.loop-b-test.false l.invariant.2 l.invariant.3 c.from-3.ensures c.from-4.ensures)
