-- Laws of what empties the count and the run, with positions as their bytes.
-- Assumes nothing.
use mathlib.Core.Path.{◌≡◌}
use mathlib.Core.Bool.{true, not}
use mathlib.Core.List.{List}
use Prim.Native.Nat.{ℕ}
use native.Mathlib.Omega.{arith}
use lib.Dec.{eqb, lit<}
use lib.ListN.{get_or}
use borrow.Author.Tests.{eq-eqb, ne_eqb}
use Rattle.square.specs.Piece.{kind_of, pawn}
use Rattle.board_builder.specs.BoardBuilder.{white_rights_at, black_rights_at}
use Rattle.chess_move.specs.Number.{source_of, dest_of}
use Rattle.position.specs.Layout.{position_of}
use Rattle.position.proofs.Fields.{number_at}
use Rattle.claim.specs.Emptying.{irreversible, rights_differ}

module _ (p : List ℕ) (m : ℕ) where
  pub by_pawn : kind_of (get_or p (source_of m) 0) ≡ pawn → irreversible (position_of p) m ≡ true
  unfolding irreversible
  by_pawn e = rw (number_at p (source_of m) (omega arith), e)

  pub by_square : (kind_of (get_or p (source_of m) 0) ≡ pawn → ⊥) → irreversible (position_of p) m ≡ not (eqb (get_or p (dest_of m) 0) 0)
  unfolding irreversible
  by_square e =
      rw (
        number_at p (source_of m) (omega arith),
        number_at p (dest_of m) (omega arith),
        ne_eqb (kind_of (get_or p (source_of m) 0)) pawn e,
      )

module _ (p q : List ℕ) where
  pub by_white : (get_or p white_rights_at 0 ≡ get_or q white_rights_at 0 → ⊥) → rights_differ (position_of p) (position_of q) ≡ true
  unfolding rights_differ
  by_white e =
      rw (
        number_at p white_rights_at (lit< tt),
        number_at q white_rights_at (lit< tt),
        ne_eqb (get_or p white_rights_at 0) (get_or q white_rights_at 0) e,
      )

  pub by_black : get_or p white_rights_at 0 ≡ get_or q white_rights_at 0
      → rights_differ (position_of p) (position_of q) ≡ not (eqb (get_or p black_rights_at 0) (get_or q black_rights_at 0))
  unfolding rights_differ
  by_black e =
      rw (
        number_at p white_rights_at (lit< tt),
        number_at q white_rights_at (lit< tt),
        number_at p black_rights_at (lit< tt),
        number_at q black_rights_at (lit< tt),
        eq-eqb (get_or p white_rights_at 0) (get_or q white_rights_at 0) e,
      )
