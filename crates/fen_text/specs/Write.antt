-- The FEN text of a record (document 01, "FEN, read and written"): ranks 8 to 1, empty runs as one digit, the side, the rights' letters, the en
-- passant square, ` 0 1`. And the full text (document 02, order 12), which ends with the record's own counters.
-- Assumes nothing.
use Rattle.std.specs.Prelude.{ℕ, zero, suc, ◌+◌, ◌*◌, cond, ◌&&◌, List, [], ◌∷◌, ◌++◌, eqb, take, drop}
use Rattle.answer.specs.Answer.{out_of_range}
use Rattle.square.specs.Square.{square_text}
use Rattle.decimal.specs.Decimal.{decimal}
use Rattle.square.specs.Piece.{letter_of}
use Rattle.castle_rights.specs.CastleRights.{letters_text}
use Rattle.board_builder.specs.declared.BoardBuilder.{BoardBuilder}
use Rattle.board_builder.specs.BoardBuilder.{in_range}
use Rattle.board_builder.specs.Getters.{en_passant_at}

-- an empty run as one digit, nothing where it is empty
unfoldable pub digit_text : ℕ → List ℕ
digit_text n = cond (eqb n 0) [] ((48 + n) ∷ [])

-- the squares of a rank, after n empty ones
unfoldable pub run_text : ℕ → List ℕ → List ℕ
run_text n [] = digit_text n
run_text n (zero ∷ xs) = run_text (n + 1) xs
run_text n (suc x ∷ xs) = digit_text n ++ (letter_of (suc x) ∷ run_text 0 xs)

abbrev pub row_of : ℕ → List ℕ → List ℕ
row_of rank pieces = take 8 (drop (rank * 8) pieces)

-- what separates a rank from the ranks below it
unfoldable pub slash_text : ℕ → List ℕ
slash_text zero = []
slash_text (suc n) = 47 ∷ []

-- the lowest n ranks, from the highest of them down
unfoldable pub ranks_text : ℕ → List ℕ → List ℕ
ranks_text zero pieces = []
ranks_text (suc n) pieces = run_text 0 (row_of n pieces) ++ (slash_text n ++ ranks_text n pieces)

-- `w` or `b`
abbrev pub side_letter : ℕ → ℕ
side_letter side = cond (eqb side 0) 119 98

-- white's letters then black's in upper and lower case, or one `-`
unfoldable pub rights_text : ℕ → ℕ → List ℕ
rights_text white black = cond (eqb white 0 && eqb black 0) (45 ∷ []) (letters_text white 0 ++ letters_text black 1)

-- the en passant square on rank 6 with white to move and rank 3 with black, or `-`
unfoldable pub en_passant_text : ℕ → ℕ → List ℕ
en_passant_text side file = cond (eqb file 0) (45 ∷ []) (square_text (en_passant_at side file))

-- two counters, each behind a space
abbrev pub counters_text : ℕ → ℕ → List ℕ
counters_text half full = 32 ∷ (decimal half ++ (32 ∷ decimal full))

-- what follows the placement, up to the counters and what is put there
abbrev pub tail_with : BoardBuilder → List ℕ → List ℕ
tail_with b end =
    32 ∷ side_letter b.side_to_move ∷ 32 ∷ (rights_text b.white_castle_rights b.black_castle_rights
    ++ (32 ∷ (en_passant_text b.side_to_move b.en_passant ++ end)))

unfoldable pub tail_text : BoardBuilder → List ℕ
tail_text b = tail_with b (32 ∷ 48 ∷ 32 ∷ 49 ∷ [])

unfoldable pub full_tail : BoardBuilder → List ℕ
full_tail b = tail_with b (counters_text b.half_moves b.full_moves)

unfoldable pub fen_text : BoardBuilder → List ℕ
fen_text b = ranks_text 8 b.pieces ++ tail_text b

unfoldable pub full_text : BoardBuilder → List ℕ
full_text b = ranks_text 8 b.pieces ++ full_tail b

-- what either writer checks before 7: each number of the record
abbrev pub fen_check : BoardBuilder → ℕ
fen_check b = cond (in_range b) 0 out_of_range
