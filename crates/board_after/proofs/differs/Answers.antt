-- `differs` of lib.rt meets its contract: r ≡ differs x y.
use mathlib.Core.Path.{◌∙◌}
use Rattle.board_after.proofs.Differ.{differs_by}
use Rattle.board_after.proofs.differs.Goals as goal

pub returns : goal.returns
returns c = c.from.ensures ∙ differs_by c.args.x c.args.y
