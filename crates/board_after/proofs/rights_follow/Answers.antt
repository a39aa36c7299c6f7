-- `rights_follow` of lib.rt meets its contract: r ≡ (eqb left (rights_after 0 white source dest) && eqb right (rights_after 1 black source dest)).
use mathlib.Core.Path.{sym, ◌∙◌}
use lib.Dec.{eqb}
use borrow.Author.Tests.{eqb-true}
use Rattle.answer.proofs.Numbers.{both_left, both_right}
use Rattle.move_rules.proofs.Rights.{none_left_lem}
use Rattle.board_after.proofs.rights_follow.Goals as goal

pub returns-then-both : goal.returns-then-both
returns-then-both c =
    let a = c.args in
    let at_both = c.both in
    let zeros : _ = sym at_both.ensures ∙ c.if-both.true in
    c.both-then-both.ensures
    ∙ none_left_lem a.way.source a.way.dest a.left a.right a.white a.black (eqb-true _ _ (both_left (eqb a.white 0) (eqb a.black 0) zeros))
    (eqb-true _ _ (both_right (eqb a.white 0) (eqb a.black 0) zeros))
