-- The FEN reader (document 01, "FEN, read and written"): fewer than four tokens are refused, tokens after the fourth are ignored. A refusal says which
-- part is wrong, and where (document 02, order 2): too few tokens, a bad placement byte, a bad side token, tested in that order. It sets the counters to
-- 0 and 1 (order 12), which `board` does.
-- Assumes nothing.
use Rattle.std.specs.Prelude.{ℕ, ◌+◌, ◌%◌, cond, ◌||◌, List, [], ◌∷◌, eqb, ltb, length, Result, Ok, Err}
use Rattle.square.specs.declared.PairError.{PairError}
use Rattle.answer.specs.Answer.{too_few_tokens, bad_placement, bad_side}
use Rattle.square.specs.Square.{read_square}
use Rattle.answer.specs.Numbers.{among}
use Rattle.castle_rights.specs.CastleRights.{rights}
use Rattle.board_builder.specs.declared.BoardBuilder.{BoardBuilder}
use Rattle.board_builder.specs.BoardBuilder.{board, no_board}
use Rattle.fen_text.specs.declared.Fen.{Fen}
use Rattle.fen_text.specs.Token.{tokens}
use Rattle.fen_text.specs.Placement.{start, place_all, first_bad}

-- side is `w`, `W`, `b` or `B`: 0, 0, 1, 1, and 2 for any other byte
abbrev pub side_byte : ℕ → ℕ
side_byte b = cond (eqb b 119 || eqb b 87) 0 (cond (eqb b 98 || eqb b 66) 1 2)

unfoldable pub side_of : List ℕ → ℕ
side_of [] = 2
side_of (b ∷ []) = side_byte b
side_of (b ∷ c ∷ bs) = 2

-- each right holds if its letter, k or q, occurs anywhere in the third token
unfoldable pub rights_of : ℕ → ℕ → List ℕ → ℕ
rights_of k q t = rights (cond (among k t) 1 0) (cond (among q t) 1 0)

-- the file, from 1, of a square that was read; none if none was
abbrev pub file_read : Result ℕ PairError → ℕ
file_read (Ok s) = s % 8 + 1
file_read (Err e) = 0

-- the fourth token sets a file if its first two bytes are a to h and 1 to 8; the rank and the rest are dropped; otherwise none is set, and that is
-- no refusal
abbrev pub en_passant_of : List ℕ → ℕ
en_passant_of t = file_read (read_square t)

-- a refused text: what is wrong, where that is in the text, and an all-zero record
abbrev pub refused_at : ℕ → ℕ → Fen
refused_at number offset = record { number = number; offset = offset; board = no_board }

-- an accepted text
abbrev pub fen_of : BoardBuilder → Fen
fen_of b = record { number = 0; offset = 0; board = b }

-- the pieces of a good placement, the side of a token that starts at `at`, and two more tokens, which are not refused
unfoldable pub sided : ℕ → List ℕ → ℕ → List ℕ → List ℕ → Fen
sided at pieces side castling ep =
    cond (ltb side 2) (fen_of (board pieces side (rights_of 75 81 castling) (rights_of 107 113 castling) (en_passant_of ep))) (refused_at bad_side at)

-- the four tokens; the second starts behind the space that ends the first
unfoldable pub assembled : List ℕ → List ℕ → List ℕ → List ℕ → Fen
assembled placement side castling ep =
    cond (place_all start placement).good
    (sided (length placement + 1) (place_all start placement).pieces (side_of side) castling ep)
    (refused_at bad_placement (first_bad placement))

-- the tokens of a text of that length
unfoldable pub of_tokens : ℕ → List (List ℕ) → Fen
of_tokens long [] = refused_at too_few_tokens long
of_tokens long (a ∷ []) = refused_at too_few_tokens long
of_tokens long (a ∷ b ∷ []) = refused_at too_few_tokens long
of_tokens long (a ∷ b ∷ c ∷ []) = refused_at too_few_tokens long
of_tokens long (a ∷ b ∷ c ∷ d ∷ ts) = assembled a b c d

unfoldable pub read_fen : List ℕ → Fen
read_fen s = of_tokens (length s) (tokens s)
