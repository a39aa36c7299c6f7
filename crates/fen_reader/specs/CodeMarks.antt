-- How the reader tells the bytes of a placement apart: a mark for each byte, noted in a table. For its inner functions; the public contract does not speak
-- of this.
-- Assumes nothing.
use Rattle.std.specs.Prelude.{ℕ, ◌+◌, ◌*◌, ◌-◌, cond, List, [], ◌∷◌, eqb, set, replicate}
use Rattle.answer.specs.Numbers.{between}
use Rattle.square.specs.Piece.{piece_of}
use Rattle.fen_text.specs.Placement.{signs}

-- a mark's low half says how many places the byte takes; its high half is a piece's code, 0 of a digit, 13 of a slash, 15 of any other byte
abbrev pub slash_mark : ℕ
slash_mark = 216

abbrev pub no_mark : ℕ
no_mark = 241

unfoldable pub byte_mark : ℕ → ℕ
byte_mark b = cond (eqb b 47) slash_mark (cond (between 49 56 b) (b - 48) (cond (eqb (piece_of b) 0) no_mark (piece_of b * 16 + 1)))

-- a table in which the marks of some bytes are noted
unfoldable pub mark_all : List ℕ → List ℕ → List ℕ
mark_all [] table = table
mark_all (b ∷ bs) table = mark_all bs (set table b (byte_mark b))

-- the table that the walks look into
abbrev pub marked : List ℕ
marked = mark_all signs (replicate 256 no_mark)
