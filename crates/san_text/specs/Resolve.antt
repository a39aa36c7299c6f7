-- Which move of a list a SAN text names (document 01, "Move texts"): the only entry that fits, if the form's test passes; equal entries count twice.
-- Assumes nothing.
use Rattle.std.specs.Prelude.{ℕ, ◌+◌, ◌*◌, ◌/◌, ◌%◌, Bool, cond, not, ◌&&◌, ◌||◌, List, eqb, get_or}
use Rattle.answer.specs.declared.Answer.{Answer}
use Rattle.answer.specs.Answer.{accepted, refused, invalid_san_move}
use Rattle.square.specs.Piece.{kind_of}
use Rattle.answer.specs.Numbers.{among}
use Rattle.chess_move.specs.Number.{source_of, dest_of, promotion_of, number_of}
use Rattle.move_list.specs.MoveList.{count, first_of}
use Rattle.san_text.specs.declared.San.{San}

-- the kind of man on a square, and whether none is there
abbrev pub kind_on : List ℕ → ℕ → ℕ
kind_on pieces square = kind_of (get_or pieces square 0)

abbrev pub empty_on : List ℕ → ℕ → Bool
empty_on pieces square = eqb (get_or pieces square 0) 0

-- a part that the text does not have agrees with anything
unfoldable pub agrees : ℕ → ℕ → Bool
agrees wanted found = eqb wanted 0 || eqb wanted found

-- an entry fits if piece kind on its source, file, rank, destination and promotion agree
unfoldable pub fits : List ℕ → San → ℕ → Bool
fits pieces t m =
    eqb (kind_on pieces (source_of m)) t.piece
    && (agrees t.file (source_of m % 8 + 1) && (agrees t.rank (source_of m / 8 + 1) && (eqb (dest_of m) t.dest && eqb (promotion_of m) t.promotion)))

-- the capture test: without `x` the destination is empty; with `x` and without the mark it is occupied; with both it always passes
unfoldable pub capture_test : List ℕ → San → ℕ → Bool
capture_test pieces t m = cond t.takes (t.mark || not (empty_on pieces (dest_of m))) (empty_on pieces (dest_of m))

-- accepted exactly when only one entry passes f, and it also passes the further test
unfoldable pub sole_that : (ℕ → Bool) → (ℕ → Bool) → List ℕ → Answer
sole_that f test moves =
    cond (eqb (count f moves) 1) (cond (test (first_of f moves)) (accepted (first_of f moves)) (refused invalid_san_move)) (refused invalid_san_move)

-- the move from file e to the given file on the back rank of the side to move, without promotion
unfoldable pub castling_move : ℕ → ℕ → ℕ
castling_move side file = number_of (56 * side + 4) (56 * side + file) 0

-- .. if listed
unfoldable pub castle : ℕ → List ℕ → ℕ → Answer
castle side moves file = cond (among (castling_move side file) moves) (accepted (castling_move side file)) (refused invalid_san_move)
