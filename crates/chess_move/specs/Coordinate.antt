-- Coordinate texts (document 01, "Move texts"): bytes 0 and 1 are a square, then 2 and 3. A pair that is not there is 3, a bad pair is 2, first pair
-- first. Exactly five bytes must end in q, r, n or b, else 3. Longer text drops its tail. A refusal has an offset (document 02, order 3): the faulty
-- byte's, or the text's length where a pair is not there.
-- Assumes nothing.
use Rattle.std.specs.Prelude.{ℕ, ◌+◌, cond, List, [], ◌∷◌, ◌++◌, eqb, leb, length, get_or, drop, Result, Ok, Err}
use Rattle.answer.specs.declared.Placed.{Placed}
use Rattle.square.specs.declared.PairError.{PairError}
use Rattle.square.specs.declared.PairError.TheVariants.{BadFile, BadRank, Missing}
use Rattle.answer.specs.Answer.{read_as, fault_at, invalid_uci_move, bad_list}
use Rattle.square.specs.Square.{read_square, pair_told, square_text}
use Rattle.square.specs.Piece.{letter_of}
use Rattle.chess_move.specs.Number.{last_move, source_of, dest_of, promotion_of, number_of}

-- q r n b, 0 for any other byte
unfoldable pub promotion_named : ℕ → ℕ
promotion_named b = cond (eqb b 113) 5 (cond (eqb b 114) 4 (cond (eqb b 110) 2 (cond (eqb b 98) 3 0)))

-- a fifth byte, which must be a promotion's
abbrev pub promoted : ℕ → ℕ → ℕ → Placed
promoted source dest promotion = cond (eqb promotion 0) (fault_at invalid_uci_move 4) (read_as (number_of source dest promotion))

abbrev pub with_end : List ℕ → ℕ → ℕ → Placed
with_end s source dest = cond (eqb (length s) 5) (promoted source dest (promotion_named (get_or s 4 0))) (read_as (number_of source dest 0))

-- the second pair, bytes 2 and 3
unfoldable pub with_dest : List ℕ → ℕ → Result ℕ PairError → Placed
with_dest s source (Ok dest) = with_end s source dest
with_dest s source (Err BadFile) = pair_told 2 (length s) (Err BadFile)
with_dest s source (Err BadRank) = pair_told 2 (length s) (Err BadRank)
with_dest s source (Err Missing) = pair_told 2 (length s) (Err Missing)

-- the first pair, bytes 0 and 1
unfoldable pub with_source : List ℕ → Result ℕ PairError → Placed
with_source s (Ok source) = with_dest s source (read_square (drop 2 s))
with_source s (Err BadFile) = pair_told 0 (length s) (Err BadFile)
with_source s (Err BadRank) = pair_told 0 (length s) (Err BadRank)
with_source s (Err Missing) = pair_told 0 (length s) (Err Missing)

unfoldable pub read_move : List ℕ → Placed
read_move s = with_source s (read_square s)

-- written: the two squares and a lower-case piece letter if there is a promotion; the lower-case letters are black's
abbrev pub promotion_text : ℕ → List ℕ
promotion_text p = cond (eqb p 0) [] (letter_of (p + 6) ∷ [])

unfoldable pub move_text : ℕ → List ℕ
move_text n = square_text (source_of n) ++ (square_text (dest_of n) ++ promotion_text (promotion_of n))

-- what the writer checks before 7
abbrev pub move_check : ℕ → ℕ
move_check n = cond (leb n last_move) 0 bad_list
