-- Squares, men and decimal numbers (document 01, "Port order" 1 and "Numbers of the record"), in numbers: A1 = 0, H8 = 63; 1 to 6 white, 7 to 12 black.
-- Assumes nothing.
use Rattle.std.specs.Prelude.{ℕ, ◌≡◌, List, [], ◌∷◌, Ok, Err}
use Rattle.answer.specs.Ascii.{ascii}
use Rattle.square.specs.declared.PairError.TheVariants.{BadFile, BadRank, Missing}
use Rattle.square.specs.Square.{make_square, rank_of, file_of, back_rank, read_square, pair_told, square_text, square_check}
use Rattle.square.specs.Piece.{piece_of, letter_of, kind_of, pawn, king, man_on}
use Rattle.decimal.specs.Promises.{value_from, value_of}
use Rattle.number_rows.specs.Answers.{says, says_at}

-- what is said of each number of a list
unfoldable pub of_each : (ℕ → ℕ) → List ℕ → List ℕ
of_each f [] = []
of_each f (x ∷ xs) = f x ∷ of_each f xs

-- g2 is rank 1, file 6, square 14
pub record SquareNumbers : Type 0 where
  pub g2 : make_square 1 6 ≡ says 0 14
  pub h8 : make_square 7 7 ≡ says 0 63
  pub no_rank : make_square 8 7 ≡ says 5 0
  pub no_file : make_square 7 8 ≡ says 5 0
  pub rank_of_g2 : rank_of 14 ≡ says 0 1
  pub rank_of_h8 : rank_of 63 ≡ says 0 7
  pub rank_of_a2 : rank_of 8 ≡ says 0 1
  pub rank_of_none : rank_of 64 ≡ says 5 0
  pub file_of_g2 : file_of 14 ≡ says 0 6
  pub file_of_h8 : file_of 63 ≡ says 0 7
  pub file_of_none : file_of 64 ≡ says 5 0
  pub white_back_rank : back_rank 0 ≡ says 0 0
  pub black_back_rank : back_rank 1 ≡ says 0 7
  pub no_colour : back_rank 2 ≡ says 5 0

pub record SquareTexts : Type 0 where
  pub a1 : read_square (ascii "a1") ≡ Ok 0
  pub h8_read : read_square (ascii "h8") ≡ Ok 63
  pub b7_and_more : read_square (ascii "b7x") ≡ Ok 49
  pub before_a : read_square (ascii "`9") ≡ Err BadFile
  pub after_h : read_square (ascii "i0") ≡ Err BadFile
  pub rank_0 : read_square (ascii "a0") ≡ Err BadRank
  pub rank_9 : read_square (ascii "h9") ≡ Err BadRank
  pub nothing : read_square [] ≡ Err Missing
  pub one_byte : read_square (ascii "a") ≡ Err Missing
  -- a pair that starts at 3 in a text of 9 bytes
  pub told : pair_told 3 9 (Ok 5) ≡ says_at 0 5 0
  pub told_file : pair_told 3 9 (Err BadFile) ≡ says_at 2 0 3
  pub told_rank : pair_told 3 9 (Err BadRank) ≡ says_at 2 0 4
  pub told_missing : pair_told 3 9 (Err Missing) ≡ says_at 3 0 9
  pub g2_written : square_text 14 ≡ ascii "g2"
  pub b7_written : square_text 49 ≡ ascii "b7"
  pub last : square_check 63 ≡ 0
  pub past_it : square_check 64 ≡ 5

pub record Men : Type 0 where
  pub codes : of_each piece_of (ascii "PNBRQKpnbrqkAz") ≡ 1 ∷ 2 ∷ 3 ∷ 4 ∷ 5 ∷ 6 ∷ 7 ∷ 8 ∷ 9 ∷ 10 ∷ 11 ∷ 12 ∷ 0 ∷ 0 ∷ []
  pub letters : of_each letter_of (1 ∷ 2 ∷ 3 ∷ 4 ∷ 5 ∷ 6 ∷ 7 ∷ 8 ∷ 9 ∷ 10 ∷ 11 ∷ 12 ∷ []) ≡ ascii "PNBRQKpnbrqk"
  pub no_letter : of_each letter_of (0 ∷ 13 ∷ []) ≡ 0 ∷ 0 ∷ []
  pub kinds : of_each kind_of (0 ∷ 1 ∷ 6 ∷ 7 ∷ 8 ∷ 12 ∷ []) ≡ 0 ∷ 1 ∷ 6 ∷ 1 ∷ 2 ∷ 6 ∷ []
  pub a_pawn : pawn ≡ 1
  pub a_king : king ≡ 6
  pub on_b1 : man_on (4 ∷ 2 ∷ []) 1 ≡ 2
  pub on_no_square : man_on (4 ∷ 2 ∷ []) 2 ≡ 0

-- the number that digits say
pub record DigitsRead : Type 0 where
  pub hundred_twenty_three : value_of (ascii "123") ≡ 123
  pub behind_seven : value_from 7 (ascii "40") ≡ 740
