-- `push_action` of lib.rt meets its contract.
use mathlib.Core.Path.{sym}
use mathlib.Core.List.{◌++◌}
use Rattle.decimal.specs.Decimal.{decimal}
use Rattle.differences_text.specs.Differences.{pair_text}
use Rattle.differences_text.specs.Promises.{longest}
use Rattle.differences.proofs.Keys.{fits_as}
use Rattle.differences.proofs.Pushing.{put_as, part_fits, rest_fits, parts_put, word, action_line_lem}
use Rattle.differences.proofs.push_action.Goals as goal

pub push-requires : goal.push-requires
push-requires c =
    let a = c.args in
    part_fits a.text.now word (decimal a.i ++ pair_text a.x a.y) longest (fits_as _ longest (action_line_lem a.i a.x a.y) c.requires)

pub push_number-requires : goal.push_number-requires
push_number-requires c =
    let a = c.args in
    part_fits _ (decimal a.i) (pair_text a.x a.y) longest
    (rest_fits a.text.now word (decimal a.i ++ pair_text a.x a.y) longest (fits_as _ longest (action_line_lem a.i a.x a.y) c.requires) _ c.push.ensures)

pub push_pair-requires : goal.push_pair-requires
push_pair-requires c =
    let a = c.args in
    rest_fits _ (decimal a.i) (pair_text a.x a.y) longest
    (rest_fits a.text.now word (decimal a.i ++ pair_text a.x a.y) longest (fits_as _ longest (action_line_lem a.i a.x a.y) c.requires) _ c.push.ensures)
    _ c.push_number.ensures

pub returns : goal.returns
returns c =
    let a = c.args in
    put_as _ _ (sym (action_line_lem a.i a.x a.y)) (parts_put a.text.now word (decimal a.i ++ pair_text a.x a.y) c.push.ensures
    (parts_put _ (decimal a.i) (pair_text a.x a.y) c.push_number.ensures c.push_pair.ensures))
