-- Laws of the result, with the position as its bytes.
-- Assumes nothing.
use Rattle.std.specs.Prelude.{Option}
use mathlib.Core.Path.{◌≡◌, ap₂}
use mathlib.Core.List.{List}
use Prim.Native.Nat.{ℕ}
use lib.ListN.{get_or}
use borrow.Author.Tests.{ne_eqb}
use Rattle.action.specs.declared.Action.{Action}
use Rattle.board_builder.specs.BoardBuilder.{side_at}
use Rattle.position.specs.Layout.{check_at, length_at, position_of}
use Rattle.position.proofs.Fields.{side_at_fact, check_at_fact, length_list}
use Rattle.ending.specs.Ending.{result_without_moves, result_of_action, result_of}

module _ (p : List ℕ) (last : Option Action) where
  pub result_empty : get_or p length_at 0 ≡ 0 → result_of (position_of p) last ≡ result_without_moves (get_or p side_at 0) (get_or p check_at 0)
  unfolding result_of
  result_empty e = rw (length_list p, e) (ap₂ result_without_moves (side_at_fact p) (check_at_fact p))

  pub result_last : (get_or p length_at 0 ≡ 0 → ⊥) → result_of (position_of p) last ≡ result_of_action last
  unfolding result_of
  result_last e = rw (length_list p, ne_eqb (get_or p length_at 0) 0 e)
