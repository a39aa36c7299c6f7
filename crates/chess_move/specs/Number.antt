-- A move is one number: source + 64 × destination + 4,096 × promotion (0 none, 1 to 6 in the piece order), so at most 28,671 (document 01,
-- "Numbers of the record, the move and the log").
-- Assumes nothing.
use Rattle.std.specs.Prelude.{ℕ, ◌+◌, ◌*◌, ◌/◌, ◌%◌, ◌&&◌, leb}
use Rattle.answer.specs.declared.Answer.{Answer}
use Rattle.answer.specs.Answer.{in_range_or5}
use Rattle.chess_move.specs.declared.ChessMove.{ChessMove}

abbrev pub last_move : ℕ
last_move = 28671

abbrev pub source_of : ℕ → ℕ
source_of n = n % 64

abbrev pub dest_of : ℕ → ℕ
dest_of n = n / 64 % 64

abbrev pub promotion_of : ℕ → ℕ
promotion_of n = n / 4096

abbrev pub number_of : ℕ → ℕ → ℕ → ℕ
number_of source dest promotion = source + 64 * dest + 4096 * promotion

-- a number as two bytes, low first
abbrev pub low_byte : ℕ → ℕ
low_byte n = n % 256

abbrev pub high_byte : ℕ → ℕ
high_byte n = n / 256

abbrev pub of_bytes : ℕ → ℕ → ℕ
of_bytes low high = low + 256 * high

-- the three parts of a number, and the number of three parts in range
abbrev pub move_of : ℕ → ChessMove
move_of n = record { source = source_of n; dest = dest_of n; promotion = promotion_of n }

abbrev pub number_answer : ChessMove → Answer
number_answer m = in_range_or5 (leb m.source 63 && (leb m.dest 63 && leb m.promotion 6)) (number_of m.source m.dest m.promotion)
