-- Rolls: how far groups reach, the text of an action of no kind, a move past the limit before many other actions, and an old roll by itself (document 02,
-- orders 1 and 12). The limits and rolls are those of crates/roll_text/specs/AtSmallest.antt and WholeAtSmallest.antt.
-- Assumes nothing.
use Rattle.std.specs.Prelude.{◌≡◌, [], ◌∷◌, replicate}
use Rattle.roll_text.specs.Number.{reach}
use Rattle.roll_text.specs.Roll.{action_text, rolled, read_old_roll}
use Rattle.roll_text.specs.AtSmallest.{fewest, placed_with}
use Rattle.roll_text.specs.WholeAtSmallest.{answers, last_four}

pub record RollsInNumbers : Type 0 where
  pub one_group : reach 1 ≡ 128
  pub three_groups_lem : reach 3 ≡ 2097152
  pub no_kind : action_text 0 1 5 ≡ 1 ∷ []
  -- two moves may come: a third is 13, however many actions are left
  pub third_of_six : answers (last_four 0 0 0 0) (6 ∷ 2 ∷ 0 ∷ 2 ∷ 0 ∷ 2 ∷ 0 ∷ 4 ∷ 4 ∷ 4 ∷ []) ≡ 13
  pub two_of_six : answers (last_four 0 0 0 0) (6 ∷ 4 ∷ 4 ∷ 2 ∷ 0 ∷ 4 ∷ 4 ∷ 2 ∷ 0 ∷ []) ≡ 0
  pub old : read_old_roll fewest (placed_with (0 ∷ [])) ≡ rolled (record { numbers = replicate 68 0; half = 0; full = 1 }) 0 []
