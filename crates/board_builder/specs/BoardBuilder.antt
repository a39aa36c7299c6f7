-- The board record (document 01, "Numbers of the record, the move and the log"): 64 squares, side, white rights, black rights, en passant. Then the two
-- counters of a FEN (document 02, order 12), "so it has 70 numbers". Keys, pages and the equality of positions go by the 68 before them.
-- Assumes nothing.
use Rattle.std.specs.Prelude.{ℕ, ◌+◌, Bool, ◌&&◌, List, [], ◌∷◌, ◌++◌, leb, eqb, length, take, get_or, replicate}
use Rattle.answer.specs.Numbers.{all_at_most}
use Rattle.board_builder.specs.declared.BoardBuilder.{BoardBuilder}

-- the record of 70 numbers
abbrev pub board_counted : List ℕ → ℕ → ℕ → ℕ → ℕ → ℕ → ℕ → BoardBuilder
board_counted pieces side white black file half full =
    record {
      pieces = pieces;
      side_to_move = side;
      white_castle_rights = white;
      black_castle_rights = black;
      en_passant = file;
      half_moves = half;
      full_moves = full;
    }

-- the record of 68 numbers, with the counters of a game that begins: 0 half-moves, and the first move
abbrev pub board : List ℕ → ℕ → ℕ → ℕ → ℕ → BoardBuilder
board pieces side white black file = board_counted pieces side white black file 0 1

-- a record with other counters, and with those of a game that begins
abbrev pub with_counters : BoardBuilder → ℕ → ℕ → BoardBuilder
with_counters b half full =
    board_counted b.pieces b.side_to_move b.white_castle_rights b.black_castle_rights b.en_passant half full

abbrev pub uncounted : BoardBuilder → BoardBuilder
uncounted b = with_counters b 0 1

-- the record without its counters as one list of 68 numbers, in the paper's order; and all 70 numbers
unfoldable pub numbers : BoardBuilder → List ℕ
numbers b = b.pieces ++ (b.side_to_move ∷ b.white_castle_rights ∷ b.black_castle_rights ∷ b.en_passant ∷ [])

abbrev pub all_numbers : BoardBuilder → List ℕ
all_numbers b = numbers b ++ (b.half_moves ∷ b.full_moves ∷ [])

-- how many squares a record has, how many numbers beside its counters, and the largest that a counter may be
abbrev pub squares : ℕ
squares = 64

abbrev pub record_size : ℕ
record_size = 68

abbrev pub last_count : ℕ
last_count = 9999

-- "0 to 9,999 and 1 to 9,999"
abbrev pub counters_in_range : ℕ → ℕ → Bool
counters_in_range half full = leb half last_count && (leb 1 full && leb full last_count)

-- the counters; 64 squares of 0 to 12, side 0 or 1, rights 0 to 3, en passant 0 to 8
unfoldable pub in_range : BoardBuilder → Bool
in_range b =
    counters_in_range b.half_moves b.full_moves
    && (eqb (length b.pieces) squares
    && (leb b.side_to_move 1
    && (leb b.white_castle_rights 3
    && (leb b.black_castle_rights 3
    && (leb b.en_passant 8
    && all_at_most 12 b.pieces)))))

-- where the numbers behind the squares stand in that list
abbrev pub side_at : ℕ
side_at = squares

abbrev pub white_rights_at : ℕ
white_rights_at = squares + 1

abbrev pub black_rights_at : ℕ
black_rights_at = squares + 2

abbrev pub file_at : ℕ
file_at = squares + 3

-- the record that a list of 68 numbers stands for, and whether the list is that of a record in range
abbrev pub board_of : List ℕ → BoardBuilder
board_of l = board (take squares l) (get_or l side_at 0) (get_or l white_rights_at 0) (get_or l black_rights_at 0) (get_or l file_at 0)

unfoldable pub numbers_in_range : List ℕ → Bool
numbers_in_range l = eqb (length l) record_size && in_range (board_of l)

abbrev pub empty_board : BoardBuilder
empty_board = board (replicate squares 0) 0 0 0 0

-- all zeros, beside a refusal; no record in range
abbrev pub no_board : BoardBuilder
no_board = with_counters empty_board 0 0

-- the initial position: white's men, four empty ranks, black's men; white to move, all rights, no en passant
abbrev pub initial_board : BoardBuilder
initial_board =
    board
    ((4 ∷ 2 ∷ 3 ∷ 5 ∷ 6 ∷ 3 ∷ 2 ∷ 4 ∷ [])
    ++ (replicate 8 1
    ++ (replicate 32 0
    ++ (replicate 8 7
    ++ (10 ∷ 8 ∷ 9 ∷ 11 ∷ 12 ∷ 9 ∷ 8 ∷ 10 ∷ [])))))
    0
    3
    3
    0
