-- Moves in numbers (document 01, "Numbers of the record, the move and the log"): source + 64 × destination + 4,096 × promotion; their coordinate texts;
-- lists of them; castling rights.
-- Assumes nothing.
use Rattle.std.specs.Prelude.{ℕ, ◌≡◌, true, false, [], ◌∷◌, leb, replicate}
use Prim.Native.String.{String}
use Rattle.answer.specs.Ascii.{ascii}
use Rattle.chess_move.specs.declared.ChessMove.{ChessMove}
use Rattle.chess_move.specs.Number.{last_move, source_of, dest_of, promotion_of, number_of, low_byte, high_byte, of_bytes, move_of, number_answer}
use Rattle.chess_move.specs.Coordinate.{read_move, move_text, move_check}
use Rattle.chess_move.specs.Base.{base_move}
use Rattle.chess_move.specs.Faults.{in_place}
use Rattle.chess_move.specs.Promises.{readable}
use Rattle.move_list.specs.MoveList.{longest_list, over, list_in_range, count, first_of}
use Rattle.number_rows.specs.Answers.{says, says_at}

-- from a square to a square, with a promotion or 0
abbrev pub from_to : ℕ → ℕ → ℕ → ChessMove
from_to from to promotion = record { source = from; dest = to; promotion = promotion }

-- 12 + 64 × 28 + 4,096 × 5
pub record MoveNumbers : Type 0 where
  pub most : last_move ≡ 28671
  pub source : source_of 22284 ≡ 12
  pub dest : dest_of 22284 ≡ 28
  pub promotion : promotion_of 22284 ≡ 5
  pub promotion_alone : promotion_of 20480 ≡ 5
  pub number : number_of 12 28 5 ≡ 22284
  pub parts : move_of 22284 ≡ from_to 12 28 5
  pub of_parts : number_answer (from_to 12 28 5) ≡ says 0 22284
  pub last : number_answer (from_to 63 63 6) ≡ says 0 28671
  pub no_source : number_answer (from_to 64 63 6) ≡ says 5 0
  pub no_dest : number_answer (from_to 63 64 6) ≡ says 5 0
  pub no_promotion : number_answer (from_to 63 63 7) ≡ says 5 0
  -- 2 × 256 + 1
  pub low : low_byte 513 ≡ 1
  pub high : high_byte 513 ≡ 2
  pub two_bytes : of_bytes 1 2 ≡ 513

-- a text that is read as a move, before order 3 too; and one that is refused, with 2 or 3 and the offset
pub record ReadAs (text : String) (move : ℕ) : Type 0 where
  pub now : read_move (ascii text) ≡ says_at 0 move 0
  pub before : base_move (ascii text) ≡ says 0 move

pub record NotRead (text : String) (number offset : ℕ) : Type 0 where
  pub now : read_move (ascii text) ≡ says_at number 0 offset
  pub before : base_move (ascii text) ≡ says number 0

-- 4,096, 8,192, 12,288, 16,384, 20,480 and 24,576 with e7e8 = 52 + 64 × 60 = 3,892
pub record MoveTextsRead : Type 0 where
  pub e2e4 : ReadAs "e2e4" 1804
  pub a1h8 : ReadAs "a1h8" 4032
  pub h8a1 : ReadAs "h8a1" 63
  pub queen : ReadAs "e7e8q" 24372
  pub rook : ReadAs "e7e8r" 20276
  pub knight : ReadAs "e7e8n" 12084
  pub bishop : ReadAs "e7e8b" 16180
  pub longer : ReadAs "e7e8q " 3892

pub record MoveTextsNotRead : Type 0 where
  pub nothing : NotRead "" 3 0
  pub one_byte : NotRead "e" 3 1
  pub two_bytes : NotRead "e2" 3 2
  pub three_bytes : NotRead "e2e" 3 3
  pub two_bad_bytes : NotRead "i2" 2 0
  pub before_a : NotRead "`2e4" 2 0
  pub after_h : NotRead "i2e4" 2 0
  pub before_1 : NotRead "e0e4" 2 1
  pub after_8 : NotRead "e9e4" 2 1
  pub then_before_a : NotRead "e2`4" 2 2
  pub then_after_h : NotRead "e2i4" 2 2
  pub then_before_1 : NotRead "e2e0" 2 3
  pub then_after_8 : NotRead "e2e9" 2 3
  pub first_pair_first : NotRead "e9i4" 2 1
  pub a_bad_pair_before_a_missing_one : NotRead "i2e" 2 0
  pub king : NotRead "e7e8k" 3 4
  pub pawn : NotRead "e7e8p" 3 4
  pub no_letter : NotRead "e7e8a" 3 4
  pub a_last_letter : NotRead "e7e8z" 3 4

pub record MoveTextsWritten : Type 0 where
  pub e2e4 : move_text 1804 ≡ ascii "e2e4"
  pub e7e8p : move_text 7988 ≡ ascii "e7e8p"
  pub e7e8n : move_text 12084 ≡ ascii "e7e8n"
  pub e7e8b : move_text 16180 ≡ ascii "e7e8b"
  pub e7e8r : move_text 20276 ≡ ascii "e7e8r"
  pub e7e8q : move_text 24372 ≡ ascii "e7e8q"
  pub e7e8k : move_text 28468 ≡ ascii "e7e8k"
  pub last : move_check 28671 ≡ 0
  pub past_it : move_check 28672 ≡ 6

-- a to h at places 0 and 2, 1 to 8 at 1 and 3
pub record BytesInPlace : Type 0 where
  pub a : in_place (ascii "a1") 0 ≡ true
  pub one : in_place (ascii "a1") 1 ≡ true
  pub h : in_place (ascii "z1h8") 2 ≡ true
  pub eight : in_place (ascii "a1h8") 3 ≡ true
  pub before_a : in_place (ascii "`1") 0 ≡ false
  pub after_h : in_place (ascii "a1i8") 2 ≡ false
  pub before_1 : in_place (ascii "a0") 1 ≡ false
  pub after_8 : in_place (ascii "a1h9") 3 ≡ false

-- a promotion that is written and read back: none, knight, bishop, rook, queen
pub record ReadBack : Type 0 where
  pub none : readable 0 ≡ true
  pub pawn : readable 1 ≡ false
  pub knight : readable 2 ≡ true
  pub queen : readable 5 ≡ true
  pub king : readable 6 ≡ false

pub record ListsOfMoves : Type 0 where
  pub most : longest_list ≡ 255
  pub over_by_five : over 9 4 ≡ 5
  pub not_over : over 4 9 ≡ 0
  pub longest : list_in_range (replicate 255 3) ≡ true
  pub too_long : list_in_range (replicate 256 3) ≡ false
  pub last_move_fact : list_in_range (3 ∷ 28671 ∷ []) ≡ true
  pub no_move_lem : list_in_range (3 ∷ 28672 ∷ []) ≡ false
  pub counted : count (leb 3) (5 ∷ 2 ∷ 3 ∷ []) ≡ 2
  pub none_counted : count (leb 3) (2 ∷ []) ≡ 0
  pub first : first_of (leb 3) (2 ∷ 5 ∷ 3 ∷ []) ≡ 5
  pub no_first : first_of (leb 3) (2 ∷ []) ≡ 0
