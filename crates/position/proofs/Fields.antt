-- A position's fields, read off its bytes.
-- Assumes nothing.
use mathlib.Core.Path.{◌≡◌, refl}
use mathlib.Core.List.{List}
use Prim.Native.Nat.{ℕ, ◌<◌}
use lib.Dec.{lit<}
use lib.ListN.{length, get_or}
use lib.Seq.{get_or-take}
use Rattle.board_builder.specs.BoardBuilder.{record_size, side_at}
use Rattle.position.specs.Layout.{check_at, length_at, moves_at, side, position_of}
use Rattle.position.proofs.Moves.{length_moves}

module _ (p : List ℕ) where
  pub number_at : (i : ℕ) → i < record_size → get_or (position_of p).board i 0 ≡ get_or p i 0
  unfolding position_of
  number_at i h = get_or-take record_size p i 0 h

  pub side_at_fact : side (position_of p) ≡ get_or p side_at 0
  side_at_fact = number_at side_at (lit< tt)

  pub check_at_fact : (position_of p).check ≡ get_or p check_at 0
  unfolding position_of
  check_at_fact = refl

  pub length_list : length (position_of p).moves ≡ get_or p length_at 0
  unfolding position_of
  length_list = length_moves p moves_at (get_or p length_at 0)
