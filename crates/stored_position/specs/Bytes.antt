-- The bytes of a position in the log (document 01, "Numbers of the record, the move and the log"): the record, an in-check byte 0 or 1, a list length, 255
-- moves of two bytes low first, unused ones 0. The record's counters come after its 68 other bytes, two bytes each, low first (document 02, order 12).
-- Assumes nothing.
use Rattle.std.specs.Prelude.{Bool, cond, ◌&&◌, List, [], ◌∷◌, ◌++◌, ℕ, ◌*◌, ◌-◌, eqb, leb, length, replicate}
use Rattle.answer.specs.Answer.{out_of_range, bad_list}
use Rattle.answer.specs.Numbers.{same, among}
use Rattle.board_builder.specs.declared.BoardBuilder.{BoardBuilder}
use Rattle.board_builder.specs.BoardBuilder.{numbers, counters_in_range, numbers_in_range}
use Rattle.chess_move.specs.Number.{low_byte, high_byte}
use Rattle.move_list.specs.MoveList.{longest_list, list_in_range}
use Rattle.position.specs.Layout.{Position, position_size, position_of}

unfoldable pub move_bytes : List ℕ → List ℕ
move_bytes [] = []
move_bytes (m ∷ ms) = low_byte m ∷ high_byte m ∷ move_bytes ms

-- two counters
abbrev pub counter_bytes : ℕ → ℕ → List ℕ
counter_bytes half full = low_byte half ∷ high_byte half ∷ low_byte full ∷ high_byte full ∷ []

unfoldable pub position_bytes : Position → List ℕ
position_bytes p =
    p.board
    ++ (counter_bytes p.half p.full
    ++ (p.check ∷ length p.moves ∷ (move_bytes p.moves ++ replicate (2 * (longest_list - length p.moves)) 0)))

-- the record is in range, its counters too
abbrev pub record_good : Position → Bool
record_good p = counters_in_range p.half p.full && numbers_in_range p.board

-- 5: the record or the in-check byte; then 6: the list
unfoldable pub position_check : Position → ℕ
position_check p = cond (record_good p && leb p.check 1) (cond (list_in_range p.moves) 0 bad_list) out_of_range

-- the position that a call is given: a board, the in-check byte and a list
abbrev pub position_given : BoardBuilder → ℕ → List ℕ → Position
position_given b check list = record { board = numbers b; half = b.half_moves; full = b.full_moves; check = check; moves = list }

-- bytes that are exactly those of a position in range
unfoldable pub is_position : List ℕ → Bool
is_position s = eqb (position_check (position_of s)) 0 && same s (position_bytes (position_of s))

-- whole bytes of a position whose list has the move
unfoldable pub lists_move : List ℕ → ℕ → Bool
lists_move s m = eqb (length s) position_size && among m (position_of s).moves

-- bytes that are exactly those of a position in range whose list has the move
unfoldable pub is_position_with : List ℕ → ℕ → Bool
is_position_with s m = is_position s && lists_move s m
