-- The writer's checks, one after the other.
-- Assumes nothing.
use mathlib.Core.Path.{◌≡◌}
use mathlib.Core.Bool.{true, false}
use mathlib.Core.List.{List}
use Prim.Native.Nat.{ℕ, ◌≤◌, ◌<◌}
use lib.ListN.{length}
use borrow.Author.Tests.{lt-ltb, le-ltb}
use Rattle.answer.specs.Answer.{out_of_range, log_full, part_too_short, bad_roll}
use Rattle.board_builder.specs.declared.BoardBuilder.{BoardBuilder}
use Rattle.board_builder.specs.BoardBuilder.{in_range}
use Rattle.actions.specs.Part.{actions_held}
use Rattle.game_rules.specs.Limits.{limits, actions_length}
use Rattle.roll_text.specs.Calls.{moves_by_kind, write_check}

module _ (b : BoardBuilder) (part : List ℕ) (n : ℕ) where
  pub too_short_fact : length part < actions_length limits → part_too_short ≡ write_check limits b part n
  unfolding write_check
  too_short_fact h = simp (lt-ltb _ _ h)

  module _ (long : actions_length limits ≤ length part) where
    pub not_in_range : in_range b ≡ false → out_of_range ≡ write_check limits b part n
    unfolding write_check
    not_in_range e = simp (le-ltb _ _ long, e)

    module _ (good : in_range b ≡ true) where
      pub too_many : limits.most_actions < n → log_full ≡ write_check limits b part n
      unfolding write_check
      too_many h = simp (le-ltb _ _ long, good, lt-ltb _ _ h)

      module _ (few : n ≤ limits.most_actions) where
        pub too_many_moves : limits.most_moves < moves_by_kind part n → log_full ≡ write_check limits b part n
        unfolding write_check
        too_many_moves h = simp (le-ltb _ _ long, good, le-ltb _ _ few, lt-ltb _ _ h)

        module _ (few_moves : moves_by_kind part n ≤ limits.most_moves) where
          pub no_action : actions_held part n ≡ false → bad_roll ≡ write_check limits b part n
          unfolding write_check
          no_action e = simp (le-ltb _ _ long, good, le-ltb _ _ few, le-ltb _ _ few_moves, e)

          pub passes : actions_held part n ≡ true → 0 ≡ write_check limits b part n
          unfolding write_check
          passes e = simp (le-ltb _ _ long, good, le-ltb _ _ few, le-ltb _ _ few_moves, e)
