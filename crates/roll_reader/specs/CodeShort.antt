-- The commonest action of a roll: a move whose number has two groups, three bytes in all.
-- Assumes nothing.
use Rattle.std.specs.Prelude.{Ok}
use Rattle.std.specs.Prelude.{ℕ, ◌≤◌, ◌≡◌, List, eqb, drop}
use Rattle.chess_move.specs.Number.{last_move}
use Rattle.roll_text.specs.declared.Entry.TheVariants.{Move}
use Rattle.roll_text.specs.Roll.{read_entry}

-- a number that is a move's is that of the move that stands there; any other number says nothing
pub record ShortMove (s : List ℕ) (at left move : ℕ) : Type 0 where
  pub there : move ≤ last_move → read_entry (eqb left 0) (drop at s) ≡ Ok (Move move 3)
