-- The placement token (document 01, "FEN, read and written"), byte by byte: it begins at a8; a slash goes one rank down and to file a; a digit 1 to 8
-- adds to the file; a piece letter fills a square and moves one file on. Files and ranks step around modulo 8. Any other byte is refused.
-- Assumes nothing.
use Rattle.std.specs.Prelude.{ℕ, ◌+◌, ◌-◌, ◌%◌, Bool, true, false, cond, not, List, [], ◌∷◌, eqb, set, replicate}
use Rattle.answer.specs.Ascii.{ascii}
use Rattle.answer.specs.Numbers.{among}
use Rattle.answer.specs.Numbers.{between}
use Rattle.square.specs.Square.{square_of}
use Rattle.square.specs.Piece.{piece_of}
use Rattle.board_builder.specs.BoardBuilder.{squares}
use Rattle.fen_text.specs.Token.{place_where}

-- the pieces placed so far, the square to fill next, and whether every byte so far may stand in a placement
pub record Placement : Type 0 where
  pub pieces : List ℕ
  pub rank : ℕ
  pub file : ℕ
  pub good : Bool

abbrev pub placement : List ℕ → ℕ → ℕ → Bool → Placement
placement pieces rank file good = record { pieces = pieces; rank = rank; file = file; good = good }

-- an empty record, at a8
abbrev pub start : Placement
start = placement (replicate squares 0) 7 0 true

abbrev pub down : Placement → Placement
down p = placement p.pieces ((p.rank + 7) % 8) 0 p.good

abbrev pub skip : ℕ → Placement → Placement
skip n p = placement p.pieces p.rank ((p.file + n) % 8) p.good

abbrev pub fill : ℕ → Placement → Placement
fill code p = placement (set p.pieces (square_of p.rank p.file) code) p.rank ((p.file + 1) % 8) p.good

abbrev pub spoil : Placement → Placement
spoil p = placement p.pieces p.rank p.file false

-- the piece of a letter; 0 for a byte that is not the letter of a piece
abbrev pub place_code : ℕ → Placement → Placement
place_code code p = cond (eqb code 0) (spoil p) (fill code p)

unfoldable pub place_byte : Placement → ℕ → Placement
place_byte p b = cond (eqb b 47) (down p) (cond (between 49 56 b) (skip (b - 48) p) (place_code (piece_of b) p))

unfoldable pub place_all : Placement → List ℕ → Placement
place_all p [] = p
place_all p (b ∷ bs) = place_all (place_byte p b) bs

-- ---- order 2: the place of a bad byte

-- the bytes of a placement
abbrev pub signs : List ℕ
signs = ascii "/12345678PNBRQKpnbrqk"

abbrev pub is_no_sign : ℕ → Bool
is_no_sign b = not (among b signs)

-- the place of the first byte that may not stand in a placement, or the token's length if there is none
abbrev pub first_bad : List ℕ → ℕ
first_bad token = place_where is_no_sign token
