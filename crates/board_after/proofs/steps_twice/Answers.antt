-- `steps_twice` of lib.rt meets its contract: r ≡ steps_twice man source dest.
use lib.Dec.{eqb}
use borrow.Author.Tests.{eq-eqb, ne_eqb}
use Rattle.board_after.proofs.Touched.{apart_by, no_double, double_by}
use Rattle.board_after.proofs.steps_twice.Goals as goal

pub returns-then-abs_diff-ne16 : goal.returns-then-abs_diff-ne16
returns-then-abs_diff-ne16 c =
    let way = c.args.way in
    let far = c.abs_diff in
    no_double c.args.man way.source way.dest 0 way.on_board.0 way.on_board.1 (eqb far.result 16)
    (apart_by 16 way.source way.dest _ far.ensures) (ne_eqb _ _ c.if-abs_diff-ne16.true)

pub returns : goal.returns
returns c =
    let way = c.args.way in
    let far = c.abs_diff in
    double_by c.args.man way.source way.dest c.kind_of.result way.on_board.0 way.on_board.1 (eqb far.result 16)
    (apart_by 16 way.source way.dest _ far.ensures) (eq-eqb _ _ c.if-abs_diff-ne16.false) c.kind_of.ensures
