-- How a SAN text is read, left to right (document 01, "Move texts"): exactly `O-O` or `O-O-O` is castling. Otherwise an optional N B R Q K (none is a
-- pawn); optional file; optional rank; optional `x`; and from there on as the form has it. 0 stands for no kind, no place, and a byte past the
-- end, which begins no part.
-- Assumes nothing.
use Rattle.std.specs.Prelude.{ℕ, ◌-◌, Bool, true, false, cond, ◌||◌, List, [], ◌∷◌, eqb, get_or, drop, Option, Some, None}
use Rattle.answer.specs.Numbers.{same}
use Rattle.san_text.specs.declared.SanText.{SanText}
use Rattle.san_text.specs.declared.SanText.TheVariants.{KingSide, QueenSide, Move}
use Rattle.san_text.specs.Place.{given, file_place, rank_place, square_at}

-- `O-O`, `O-O-O` and ` e.p.`
abbrev pub king_side_text : List ℕ
king_side_text = 79 ∷ 45 ∷ 79 ∷ []

abbrev pub queen_side_text : List ℕ
queen_side_text = 79 ∷ 45 ∷ 79 ∷ 45 ∷ 79 ∷ []

abbrev pub mark_text : List ℕ
mark_text = 32 ∷ 101 ∷ 46 ∷ 112 ∷ 46 ∷ []

-- N B R Q
unfoldable pub promotion_kind : ℕ → ℕ
promotion_kind b = cond (eqb b 78) 2 (cond (eqb b 66) 3 (cond (eqb b 82) 4 (cond (eqb b 81) 5 0)))

-- N B R Q K
unfoldable pub piece_kind : ℕ → ℕ
piece_kind b = cond (eqb b 75) 6 (promotion_kind b)

-- `+` or `#`
unfoldable pub is_check : ℕ → Bool
is_check b = eqb b 43 || eqb b 35

abbrev pub first_byte : List ℕ → ℕ
first_byte s = get_or s 0 0

-- what is left after a part of one byte, if the part is there
unfoldable pub after : Bool → List ℕ → List ℕ
after true s = drop 1 s
after false s = s

-- none is a pawn
unfoldable pub piece_or : ℕ → ℕ
piece_or kind = cond (eqb kind 0) 1 kind

-- what a text says, if the form takes it
abbrev pub Said : Type 0
Said = Option SanText

-- how a form reads on from the destination, given the kind, the places of the source's file and rank, and whether `x` stood
abbrev pub Dest : Type 0
Dest = ℕ → ℕ → ℕ → Bool → List ℕ → Said

-- optional `x`
unfoldable pub read_takes : Dest → ℕ → ℕ → ℕ → List ℕ → Said
read_takes dest kind file rank s = let takes = eqb (first_byte s) 120 in dest kind file rank takes (after takes s)

-- optional rank, optional file
unfoldable pub read_rank : Dest → ℕ → ℕ → List ℕ → Said
read_rank dest kind file s = let rank = rank_place (first_byte s) in read_takes dest kind file rank (after (given rank) s)

unfoldable pub read_file : Dest → ℕ → List ℕ → Said
read_file dest kind s = let file = file_place (first_byte s) in read_rank dest kind file (after (given file) s)

-- optional N B R Q K
unfoldable pub read_piece : Dest → List ℕ → Said
read_piece dest s = let kind = piece_kind (first_byte s) in read_file dest kind (after (given kind) s)

-- ---- the form of document 01

-- then optional N B R Q, optional `+` or `#`, and a mark if what is left is exactly ` e.p.`; any other tail is dropped
unfoldable pub read_end : ℕ → ℕ → ℕ → Bool → ℕ → ℕ → List ℕ → Said
read_end kind file rank takes square promotion s =
    Some (Move (record {
      piece = piece_or kind;
      file = file;
      rank = rank;
      takes = takes;
      dest = square - 1;
      promotion = promotion;
      mark = same (after (is_check (first_byte s)) s) mark_text;
    }))

unfoldable pub read_promotion : ℕ → ℕ → ℕ → Bool → ℕ → List ℕ → Said
read_promotion kind file rank takes square s =
    let promotion = promotion_kind (first_byte s) in
    read_end kind file rank takes square promotion (after (given promotion) s)

-- a square. If no square follows, file and rank together become the destination and are no longer a source; lacking either, refuse
unfoldable pub read_dest : Dest
read_dest kind file rank takes s =
    let square = square_at (file_place (first_byte s)) (rank_place (get_or s 1 0)) in
    cond (given square) (read_promotion kind file rank takes square (drop 2 s))
    (cond (given (square_at file rank)) (read_promotion kind 0 0 takes (square_at file rank) s) None)

unfoldable pub read_text : List ℕ → Said
read_text s = cond (same s king_side_text) (Some KingSide) (cond (same s queen_side_text) (Some QueenSide) (read_piece read_dest s))
