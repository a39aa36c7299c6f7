-- The board record in numbers (document 01, "Numbers of the record, the move and the log"; document 02, order 12): 64 squares, side, white rights, black
-- rights, en passant, half-moves, full moves; what the builder says of it and its steps; castling rights.
-- Assumes nothing.
use Rattle.std.specs.Prelude.{ℕ, ◌-◌, ◌≡◌, true, false, List, [], ◌∷◌, ◌++◌, replicate}
use Rattle.castle_rights.specs.CastleRights.{from_index, has_king, has_queen, rook_rights, letters_check}
use Rattle.board_builder.specs.declared.BoardBuilder.{BoardBuilder}
use Rattle.board_builder.specs.declared.Stepped.{Stepped}
use Rattle.board_builder.specs.BoardBuilder.{board_counted, board, with_counters, uncounted, numbers, all_numbers, squares, record_size, last_count, in_range}
use Rattle.board_builder.specs.BoardBuilder.{side_at, white_rights_at, black_rights_at, file_at, board_of, numbers_in_range, empty_board, no_board}
use Rattle.board_builder.specs.BoardBuilder.{initial_board}
use Rattle.board_builder.specs.Getters.{piece_on, side_answer, rights_answer, en_passant_square}
use Rattle.board_builder.specs.Steps.{set_piece, clear_square, set_side, set_rights, set_en_passant, set_half_moves, set_full_moves}
use Rattle.number_rows.specs.Answers.{says}

-- 70 numbers; and a number with a record
abbrev pub seventy : List ℕ → ℕ → ℕ → ℕ → ℕ → ℕ → ℕ → BoardBuilder
seventy men side white black file half full =
    record {
      pieces = men;
      side_to_move = side;
      white_castle_rights = white;
      black_castle_rights = black;
      en_passant = file;
      half_moves = half;
      full_moves = full;
    }

abbrev pub hands : ℕ → BoardBuilder → Stepped
hands number b = record { number = number; board = b }

-- one man on a board, and a second beside him
abbrev pub a_man : ℕ → ℕ → List ℕ
a_man square code = replicate square 0 ++ (code ∷ replicate (63 - square) 0)

abbrev pub a_pair : ℕ → ℕ → ℕ → List ℕ
a_pair square code other = replicate square 0 ++ (code ∷ other ∷ replicate (62 - square) 0)

-- a queen on b2, black to move, the queen's side for white, both for black, file d, 5 half-moves, move 6; and the same with a side that is none
abbrev pub queen_on_b2 : BoardBuilder
queen_on_b2 = seventy (a_man 9 5) 1 2 3 4 5 6

abbrev pub of_no_side : BoardBuilder
of_no_side = seventy (a_man 9 5) 2 2 3 4 5 6

pub record RecordNumbers : Type 0 where
  pub counted : board_counted (a_man 9 5) 1 2 3 4 5 6 ≡ queen_on_b2
  pub beginning : board (a_man 9 5) 1 2 3 4 ≡ seventy (a_man 9 5) 1 2 3 4 0 1
  pub other_counters : with_counters queen_on_b2 7 8 ≡ seventy (a_man 9 5) 1 2 3 4 7 8
  pub without : uncounted queen_on_b2 ≡ seventy (a_man 9 5) 1 2 3 4 0 1
  pub sixty_eight : numbers queen_on_b2 ≡ a_man 9 5 ++ (1 ∷ 2 ∷ 3 ∷ 4 ∷ [])
  pub all : all_numbers queen_on_b2 ≡ a_man 9 5 ++ (1 ∷ 2 ∷ 3 ∷ 4 ∷ 5 ∷ 6 ∷ [])
  pub so_many_squares : squares ≡ 64
  pub so_many_numbers : record_size ≡ 68
  pub largest_count : last_count ≡ 9999
  pub places : (side_at ≡ 64) × (white_rights_at ≡ 65) × (black_rights_at ≡ 66) × (file_at ≡ 67)
  pub of_numbers : board_of (a_man 9 5 ++ (1 ∷ 2 ∷ 3 ∷ 4 ∷ [])) ≡ seventy (a_man 9 5) 1 2 3 4 0 1
  pub of_squares_alone : board_of (a_man 9 5) ≡ seventy (a_man 9 5) 0 0 0 0 0 1
  pub empty : empty_board ≡ seventy (replicate 64 0) 0 0 0 0 0 1
  pub zeros : no_board ≡ seventy (replicate 64 0) 0 0 0 0 0 0
  -- R N B Q K B N R, pawns, four empty ranks, pawns, r n b q k b n r
  pub initial : initial_board ≡ seventy
      (4 ∷ 2 ∷ 3 ∷ 5 ∷ 6 ∷ 3 ∷ 2 ∷ 4 ∷ (replicate 8 1 ++ (replicate 32 0 ++ (replicate 8 7 ++ (10 ∷ 8 ∷ 9 ∷ 11 ∷ 12 ∷ 9 ∷ 8 ∷ 10 ∷ [])))))
      0 3 3 0 0 1

pub record RangesOfRecords : Type 0 where
  pub least : in_range (seventy (replicate 64 0) 0 0 0 0 0 1) ≡ true
  pub most : in_range (seventy (a_man 63 12) 1 3 3 8 9999 9999) ≡ true
  pub man_13 : in_range (seventy (a_man 63 13) 1 3 3 8 9999 9999) ≡ false
  pub side_2 : in_range (seventy (a_man 63 12) 2 3 3 8 9999 9999) ≡ false
  pub white_4 : in_range (seventy (a_man 63 12) 1 4 3 8 9999 9999) ≡ false
  pub black_4 : in_range (seventy (a_man 63 12) 1 3 4 8 9999 9999) ≡ false
  pub file_9 : in_range (seventy (a_man 63 12) 1 3 3 9 9999 9999) ≡ false
  pub half_10000 : in_range (seventy (a_man 63 12) 1 3 3 8 10000 9999) ≡ false
  pub full_10000 : in_range (seventy (a_man 63 12) 1 3 3 8 9999 10000) ≡ false
  pub full_0 : in_range (seventy (a_man 63 12) 1 3 3 8 9999 0) ≡ false
  pub squares_63 : in_range (seventy (replicate 63 0) 1 3 3 8 9999 9999) ≡ false
  pub squares_65 : in_range (seventy (replicate 65 0) 1 3 3 8 9999 9999) ≡ false
  pub numbers_68 : numbers_in_range (a_man 63 12 ++ (1 ∷ 3 ∷ 3 ∷ 8 ∷ [])) ≡ true
  pub numbers_67 : numbers_in_range (a_man 63 12 ++ (1 ∷ 3 ∷ 3 ∷ [])) ≡ false
  pub numbers_69 : numbers_in_range (a_man 63 12 ++ (1 ∷ 3 ∷ 3 ∷ 8 ∷ 0 ∷ [])) ≡ false
  pub numbers_over : numbers_in_range (a_man 63 12 ++ (2 ∷ 3 ∷ 3 ∷ 8 ∷ [])) ≡ false

pub record RecordsAsked : Type 0 where
  pub on_b2 : piece_on queen_on_b2 9 ≡ says 0 5
  pub on_h8 : piece_on queen_on_b2 63 ≡ says 0 0
  pub on_none : piece_on queen_on_b2 64 ≡ says 5 0
  pub man_of_none : piece_on of_no_side 9 ≡ says 5 0
  pub side : side_answer queen_on_b2 ≡ says 0 1
  pub side_of_none : side_answer of_no_side ≡ says 5 0
  pub rights_white : rights_answer queen_on_b2 0 ≡ says 0 2
  pub rights_black : rights_answer queen_on_b2 1 ≡ says 0 3
  pub rights_colour_2 : rights_answer queen_on_b2 2 ≡ says 5 0
  pub rights_of_none : rights_answer of_no_side 1 ≡ says 5 0
  -- d3 with black to move, d6 with white, and none
  pub d3 : en_passant_square queen_on_b2 ≡ says 0 19
  pub d6 : en_passant_square (seventy (a_man 9 5) 0 2 3 4 5 6) ≡ says 0 43
  pub no_file : en_passant_square (seventy (a_man 9 5) 1 2 3 0 5 6) ≡ says 0 0
  pub file_of_none : en_passant_square of_no_side ≡ says 5 0

pub record StepsOnMen : Type 0 where
  pub pawn_on_c2 : set_piece queen_on_b2 10 7 ≡ hands 0 (seventy (a_pair 9 5 7) 1 2 3 4 5 6)
  pub king_on_h8 : set_piece (seventy (replicate 64 0) 1 2 3 4 5 6) 63 12 ≡ hands 0 (seventy (a_man 63 12) 1 2 3 4 5 6)
  pub white_pawn : set_piece (seventy (replicate 64 0) 1 2 3 4 5 6) 9 1 ≡ hands 0 (seventy (a_man 9 1) 1 2 3 4 5 6)
  pub square_64 : set_piece queen_on_b2 64 7 ≡ hands 5 queen_on_b2
  pub no_man : set_piece queen_on_b2 9 0 ≡ hands 5 queen_on_b2
  pub man_13 : set_piece queen_on_b2 10 13 ≡ hands 5 queen_on_b2
  pub of_none : set_piece of_no_side 10 7 ≡ hands 5 of_no_side
  pub b2_cleared : clear_square queen_on_b2 9 ≡ hands 0 (seventy (replicate 64 0) 1 2 3 4 5 6)
  pub h8_cleared : clear_square (seventy (a_man 63 12) 1 2 3 4 5 6) 63 ≡ hands 0 (seventy (replicate 64 0) 1 2 3 4 5 6)
  pub clear_64 : clear_square queen_on_b2 64 ≡ hands 5 queen_on_b2

pub record StepsOnTheRest : Type 0 where
  pub white : set_side queen_on_b2 0 ≡ hands 0 (seventy (a_man 9 5) 0 2 3 4 5 6)
  pub black : set_side (seventy (a_man 9 5) 0 2 3 4 5 6) 1 ≡ hands 0 queen_on_b2
  pub colour_2 : set_side queen_on_b2 2 ≡ hands 5 queen_on_b2
  pub not_mended : set_side of_no_side 0 ≡ hands 5 of_no_side
  pub white_rights : set_rights queen_on_b2 0 3 ≡ hands 0 (seventy (a_man 9 5) 1 3 3 4 5 6)
  pub white_none : set_rights queen_on_b2 0 0 ≡ hands 0 (seventy (a_man 9 5) 1 0 3 4 5 6)
  pub black_rights : set_rights queen_on_b2 1 0 ≡ hands 0 (seventy (a_man 9 5) 1 2 0 4 5 6)
  pub rights_4 : set_rights queen_on_b2 1 4 ≡ hands 5 queen_on_b2
  pub rights_colour_2 : set_rights queen_on_b2 2 0 ≡ hands 5 queen_on_b2
  pub file_h : set_en_passant queen_on_b2 8 ≡ hands 0 (seventy (a_man 9 5) 1 2 3 8 5 6)
  pub file_none : set_en_passant queen_on_b2 0 ≡ hands 0 (seventy (a_man 9 5) 1 2 3 0 5 6)
  pub file_9 : set_en_passant queen_on_b2 9 ≡ hands 5 queen_on_b2
  pub half_9999 : set_half_moves queen_on_b2 9999 ≡ hands 0 (seventy (a_man 9 5) 1 2 3 4 9999 6)
  pub half_10000 : set_half_moves queen_on_b2 10000 ≡ hands 5 queen_on_b2
  pub full_1 : set_full_moves queen_on_b2 1 ≡ hands 0 (seventy (a_man 9 5) 1 2 3 4 5 1)
  pub full_9999 : set_full_moves queen_on_b2 9999 ≡ hands 0 (seventy (a_man 9 5) 1 2 3 4 5 9999)
  pub full_0 : set_full_moves queen_on_b2 0 ≡ hands 5 queen_on_b2
  pub full_10000 : set_full_moves queen_on_b2 10000 ≡ hands 5 queen_on_b2

-- 1 king side, 2 queen side, 3 both; a rook of file a or h
pub record RightsInNumbers : Type 0 where
  pub last : from_index 3 ≡ says 0 3
  pub past_it : from_index 4 ≡ says 5 0
  pub king_of_both : has_king 3 ≡ says 0 1
  pub king_of_queen : has_king 2 ≡ says 0 0
  pub king_of_none : has_king 4 ≡ says 5 0
  pub queen_of_both : has_queen 3 ≡ says 0 1
  pub queen_of_king : has_queen 1 ≡ says 0 0
  pub queen_of_none : has_queen 4 ≡ says 5 0
  pub rook_a8 : rook_rights 56 ≡ says 0 2
  pub rook_h8 : rook_rights 63 ≡ says 0 1
  pub rook_a1 : rook_rights 0 ≡ says 0 2
  pub rook_b1 : rook_rights 1 ≡ says 5 0
  pub rook_g8 : rook_rights 62 ≡ says 5 0
  pub rook_64 : rook_rights 64 ≡ says 5 0
  pub written : letters_check 3 1 ≡ 0
  pub rights_4 : letters_check 4 1 ≡ 5
  pub colour_2 : letters_check 3 2 ≡ 5
