use mathlib.Core.Path.{◌∙◌}
use lib.ListN.{length}
use borrow.Author.Tests.{le-ltb}
use Rattle.game_rules.specs.Limits.{limits}
use Rattle.roll_writer.proofs.Sized.{few_enough}
use Rattle.roll_writer.proofs.too_many_moves.Goals as goal

pub returns-else-actions-gt-MAX_MOVES : goal.returns-else-actions-gt-MAX_MOVES
returns-else-actions-gt-MAX_MOVES c =
    let few = c.if-actions-gt-MAX_MOVES.false in
    λ acts h. le-ltb limits.most_moves (length c.args.actions.now) few ∙ few_enough acts (length c.args.actions.now) limits.most_moves few
