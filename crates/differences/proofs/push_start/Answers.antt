-- `push_start` of lib.rt meets its contract.
use mathlib.Core.Path.{sym}
use Rattle.differences_text.specs.Differences.{start_key, pair_text}
use Rattle.differences_text.specs.Promises.{longest}
use Rattle.differences.proofs.Keys.{fits_as}
use Rattle.differences.proofs.Pushing.{put_as, part_fits, rest_fits, parts_put, one_line, nothing_put}
use Rattle.differences.proofs.push_start.Goals as goal

pub returns-then-x-y : goal.returns-then-x-y
returns-then-x-y c = nothing_put c.args.text.now (start_key c.args.i) c.args.x c.args.y c.if-x-y.true

pub push_key-requires : goal.push_key-requires
push_key-requires c =
    let a = c.args in
    part_fits a.text.now (start_key a.i) (pair_text a.x a.y) longest (fits_as _ longest (one_line (start_key a.i) a.x a.y c.if-x-y.false) c.requires)

pub push_pair-requires : goal.push_pair-requires
push_pair-requires c =
    let a = c.args in
    rest_fits a.text.now (start_key a.i) (pair_text a.x a.y) longest (fits_as _ longest (one_line (start_key a.i) a.x a.y c.if-x-y.false) c.requires)
    _ c.push_key.ensures

pub returns : goal.returns
returns c =
    let a = c.args in
    put_as _ _ (sym (one_line (start_key a.i) a.x a.y c.if-x-y.false))
    (parts_put a.text.now (start_key a.i) (pair_text a.x a.y) c.push_key.ensures c.push_pair.ensures)
