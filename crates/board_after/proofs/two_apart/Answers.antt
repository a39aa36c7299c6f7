-- `two_apart` of lib.rt meets its contract: r ≡ two_apart a b.
use Rattle.move_rules.specs.After.{two_apart}
use Rattle.board_after.proofs.Touched.{apart_by}
use Rattle.board_after.proofs.two_apart.Goals as goal

pub returns : goal.returns
unfolding two_apart
returns c = apart_by 2 c.args.a c.args.b _ c.abs_diff.ensures
