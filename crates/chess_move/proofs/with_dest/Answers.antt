-- `with_dest` of lib.rt meets its contract: r ≡ with_dest (now text.entry) source dest.
use mathlib.Core.Path.{sym, ◌∙◌}
use Rattle.chess_move.specs.Coordinate.{with_dest}
use Rattle.chess_move.proofs.Ways.{bad_dest}
use Rattle.chess_move.proofs.with_dest.Goals as goal

pub returns-in-Ok : goal.returns-in-Ok
unfolding with_dest
returns-in-Ok c = rw c.in-Ok.is c.ended.ensures

pub returns-in-Err : goal.returns-in-Err
returns-in-Err c = rw c.in-Err.is (c.told.ensures ∙ sym (bad_dest c.args.text.now c.args.source _))
