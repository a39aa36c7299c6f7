-- How the code recognises a position: part by part. Not the paper's words, which are in Bytes; proofs/Known.antt shows that both say the same.
-- Assumes nothing.
use Rattle.std.specs.Prelude.{Bool, ◌&&◌, List, ℕ, ◌+◌, ◌*◌, eqb, leb, length, take, drop, get_or}
use Rattle.answer.specs.Numbers.{all_at_most, among}
use Rattle.board_builder.specs.BoardBuilder.{record_size, counters_in_range, numbers_in_range}
use Rattle.chess_move.specs.Number.{last_move}
use Rattle.position.specs.Layout.{half_at, full_at, check_at, length_at, moves_at, position_size, two_bytes_at, moves_from}

-- the record in front, its counters first; bytes that are not there count as 0
abbrev pub record_fits : List ℕ → Bool
record_fits s = counters_in_range (two_bytes_at s half_at) (two_bytes_at s full_at) && numbers_in_range (take record_size s)

-- all but the list: as many bytes as a position has, the record, the in-check byte
unfoldable pub front_fits : List ℕ → Bool
front_fits s = eqb (length s) position_size && (record_fits s && leb (get_or s check_at 0) 1)

-- this many entries of a position are moves, and what is past them is 0
unfoldable pub list_fits : List ℕ → ℕ → Bool
list_fits s entries = all_at_most 0 (drop (moves_at + 2 * entries) s) && all_at_most last_move (moves_from s moves_at entries)

-- and a move is one of them
unfoldable pub list_fits_with : List ℕ → ℕ → ℕ → Bool
list_fits_with s entries m = list_fits s entries && among m (moves_from s moves_at entries)

-- all but the record, and the list has the move
abbrev pub rest_fits : List ℕ → Bool
rest_fits s = eqb (length s) position_size && leb (get_or s check_at 0) 1

unfoldable pub rest_fits_with : List ℕ → ℕ → Bool
rest_fits_with s m = rest_fits s && list_fits_with s (get_or s length_at 0) m
