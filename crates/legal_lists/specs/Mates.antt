-- Mate and stalemate (FIDE Laws, 1.4.1 and 5.2.1), of a record whose side to move has no legal move.
-- Assumes nothing.
use Rattle.std.specs.Prelude.{ℕ, ◌≤◌, ◌≡◌, true, false}
use Rattle.board_builder.specs.declared.BoardBuilder.{BoardBuilder}
use Rattle.chess_move.specs.Number.{last_move}
use Rattle.move_laws.specs.Attack.{in_check}
use Rattle.move_laws.specs.Legal.{is_legal}

-- "has no legal move"
abbrev pub NoLegalMove : BoardBuilder → Type 0
NoLegalMove b = (m : ℕ) → m ≤ last_move → is_legal b m ≡ false

-- 1.4.1 "to place the opponent's king 'under attack' in such a way that the opponent has no legal move"
pub record Checkmated (b : BoardBuilder) : Type 0 where
  pub under_attack : in_check b.pieces b.side_to_move ≡ true
  pub no_move_lem : NoLegalMove b

-- 5.2.1 "the player to move has no legal move and his king is not in check"
pub record Stalemated (b : BoardBuilder) : Type 0 where
  pub not_in_check : in_check b.pieces b.side_to_move ≡ false
  pub no_move_lem : NoLegalMove b
