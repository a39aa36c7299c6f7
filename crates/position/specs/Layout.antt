-- Positions in the log (document 01, "Numbers of the record, the move and the log"): the record, an in-check byte, a list length, 255 moves of two
-- bytes low first. The record's counters stand behind its 68 other numbers, "each as two bytes, low first" (document 02, order 12).
-- Assumes nothing.
use Rattle.std.specs.Prelude.{◌≡◌, List, [], ◌∷◌, ℕ, zero, suc, ◌+◌, ◌*◌, length, get_or, take}
use Rattle.answer.specs.Parts.{item}
use Rattle.board_builder.specs.BoardBuilder.{record_size, side_at}
use Rattle.chess_move.specs.Number.{of_bytes}
use Rattle.move_list.specs.MoveList.{longest_list}

abbrev pub half_at : ℕ
half_at = record_size

abbrev pub full_at : ℕ
full_at = record_size + 2

abbrev pub check_at : ℕ
check_at = record_size + 4

abbrev pub length_at : ℕ
length_at = record_size + 5

abbrev pub moves_at : ℕ
moves_at = record_size + 6

abbrev pub position_size : ℕ
position_size = moves_at + 2 * longest_list

-- a slice is item k of a size, and whole
pub record IsItem (size : ℕ) (bs : List ℕ) (k : ℕ) (part : List ℕ) : Type 0 where
  pub is : part ≡ item size bs k
  pub whole : length part ≡ size

-- a number of two bytes, at a place
abbrev pub two_bytes_at : List ℕ → ℕ → ℕ
two_bytes_at p at = of_bytes (get_or p at 0) (get_or p (at + 1) 0)

-- a number of moves of two bytes each, from a place on
unfoldable pub moves_from : List ℕ → ℕ → ℕ → List ℕ
moves_from p at zero = []
moves_from p at (suc k) = two_bytes_at p at ∷ moves_from p (at + 2) k

-- the record's 68 other numbers, its counters, whether the side to move is in check, and its moves
pub record Position : Type 0 where
  pub board : List ℕ
  pub half : ℕ
  pub full : ℕ
  pub check : ℕ
  pub moves : List ℕ

-- the side to move
abbrev pub side : Position → ℕ
side p = get_or p.board side_at 0

-- the position that 584 bytes stand for
unfoldable pub position_of : List ℕ → Position
position_of p =
    record {
      board = take record_size p;
      half = two_bytes_at p half_at;
      full = two_bytes_at p full_at;
      check = get_or p check_at 0;
      moves = moves_from p moves_at (get_or p length_at 0);
    }

-- position k of the part; and a number of positions from one on, newest first
abbrev pub position_at : List ℕ → ℕ → Position
position_at ps k = position_of (item position_size ps k)

unfoldable pub positions_from : List ℕ → ℕ → ℕ → List Position
positions_from ps first zero = []
positions_from ps first (suc k) = position_at ps (first + k) ∷ positions_from ps first k
