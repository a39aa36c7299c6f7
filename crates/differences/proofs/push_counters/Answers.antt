-- `push_counters` of lib.rt meets its contract.
use mathlib.Core.Path.{sym}
use Rattle.differences_text.specs.Promises.{longest}
use Rattle.differences.proofs.Keys.{fits_as}
use Rattle.differences.proofs.Pushing.{put_as, part_fits, rest_fits, parts_put}
use Rattle.differences.proofs.Starts.{half_line, full_line, both_lines}
use Rattle.differences.proofs.push_counters.Goals as goal

pub push_start-requires : goal.push_start-requires
push_start-requires c =
    let g = c.args.game in
    let h = c.args.other in
    part_fits c.args.text.now (half_line g.half_moves h.half_moves) (full_line g.full_moves h.full_moves) longest
    (fits_as _ longest (both_lines g.half_moves g.full_moves h.half_moves h.full_moves) c.requires)

pub push_start-requires-2 : goal.push_start-requires-2
push_start-requires-2 c =
    let g = c.args.game in
    let h = c.args.other in
    rest_fits c.args.text.now (half_line g.half_moves h.half_moves) (full_line g.full_moves h.full_moves) longest
    (fits_as _ longest (both_lines g.half_moves g.full_moves h.half_moves h.full_moves) c.requires) _ c.push_start.ensures

pub returns : goal.returns
returns c =
    let g = c.args.game in
    let h = c.args.other in
    put_as _ _ (sym (both_lines g.half_moves g.full_moves h.half_moves h.full_moves))
    (parts_put c.args.text.now (half_line g.half_moves h.half_moves) (full_line g.full_moves h.full_moves) c.push_start.ensures c.push_start-2.ensures)
