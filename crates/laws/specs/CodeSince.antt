-- The Laws' count, read off a log's bytes: of the moves since a position. For the code; the public contracts do not speak of this.
-- Assumes nothing.
use Rattle.std.specs.Prelude.{cond, List, ℕ, zero, suc, leb}
use Rattle.chess_move.specs.Number.{last_move}
use Rattle.actions.specs.Part.{move_at, moves_in}
use Rattle.position.specs.Layout.{position_at}
use Rattle.claim.specs.Emptying.{irreversible}

-- the number of the position after the last of the first n actions that moved a pawn or captured, 0 where there is none
unfoldable pub laws_since : List ℕ → List ℕ → ℕ → ℕ
laws_since acts ps zero = 0
laws_since acts ps (suc i) =
    cond (leb (move_at acts i) last_move)
    (cond (irreversible (position_at ps (moves_in acts i)) (move_at acts i)) (suc (moves_in acts i)) (laws_since acts ps i))
    (laws_since acts ps i)
