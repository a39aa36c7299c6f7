-- The name of a listed move (document 01, "Move texts", the namer), over a form: the texts that are tried, in order, and the first that resolves to this
-- very move.
-- Assumes nothing.
use Rattle.std.specs.Prelude.{ℕ, ◌%◌, Bool, true, false, cond, not, ◌&&◌, ◌||◌, List, [], ◌∷◌, ◌++◌, eqb}
use Rattle.std.proofs.Math.Option.{Option, none, some}
use Rattle.answer.specs.declared.Answer.{Answer}
use Rattle.answer.specs.Answer.{out_of_range, bad_list, not_listed, no_name}
use Rattle.answer.specs.Numbers.{among}
use Rattle.board_builder.specs.declared.BoardBuilder.{BoardBuilder}
use Rattle.board_builder.specs.BoardBuilder.{in_range}
use Rattle.chess_move.specs.Number.{source_of, dest_of}
use Rattle.move_list.specs.MoveList.{list_in_range}
use Rattle.san_text.specs.Place.{file_byte, rank_byte}
use Rattle.san_text.specs.Text.{king_side_text, queen_side_text}
use Rattle.san_text.specs.Resolve.{kind_on, empty_on, castling_move}
use Rattle.san_text.specs.Form.{Form, resolved}

-- a part, if it is there
unfoldable pub optional : Bool → List ℕ → List ℕ
optional true s = s
optional false s = []

-- N B R Q, and nothing for any other kind
unfoldable pub promotion_letter : ℕ → List ℕ
promotion_letter p = cond (eqb p 2) (78 ∷ []) (cond (eqb p 3) (66 ∷ []) (cond (eqb p 4) (82 ∷ []) (cond (eqb p 5) (81 ∷ []) [])))

-- N B R Q K
unfoldable pub piece_letter : ℕ → List ℕ
piece_letter k = cond (eqb k 6) (75 ∷ []) (promotion_letter k)

-- a pawn changes files
unfoldable pub changes_files : List ℕ → ℕ → Bool
changes_files pieces m = eqb (kind_on pieces (source_of m)) 1 && not (eqb (source_of m % 8) (dest_of m % 8))

-- `x` if the destination is occupied or a pawn changes files
unfoldable pub takes_of : List ℕ → ℕ → Bool
takes_of pieces m = not (empty_on pieces (dest_of m)) || changes_files pieces m

-- the letter, the source's file and rank as far as they are wanted, and `x`
unfoldable pub head_of : List ℕ → ℕ → Bool → Bool → List ℕ
head_of pieces m file rank =
    piece_letter (kind_on pieces (source_of m))
    ++ (optional file (file_byte (source_of m) ∷ []) ++ (optional rank (rank_byte (source_of m) ∷ []) ++ optional (takes_of pieces m) (120 ∷ [])))

-- the texts to try: the first source part of none, file, rank, both that resolves (a pawn changing files: file, then both)
unfoldable pub candidates : (Bool → Bool → List ℕ) → Bool → List (List ℕ)
candidates text true = text true false ∷ text true true ∷ []
candidates text false = text false false ∷ text true false ∷ text false true ∷ text true true ∷ []

-- an answer that is this very move
abbrev pub is_this_move : Answer → ℕ → Bool
is_this_move a m = eqb a.number 0 && eqb a.value m

-- the text resolves to the move
unfoldable pub names : Form → BoardBuilder → List ℕ → ℕ → List ℕ → Bool
names F b moves m text = is_this_move (resolved F b moves (F.read text)) m

-- the castling text of a castling pair
unfoldable pub castling_name : ℕ → ℕ → Option (List ℕ)
castling_name side m = cond (eqb (castling_move side 6) m) (some king_side_text) (cond (eqb (castling_move side 2) m) (some queen_side_text) none)

-- the first text that passes, or the last resort
unfoldable pub first_name : (List ℕ → Bool) → List (List ℕ) → Option (List ℕ) → Option (List ℕ)
first_name f [] last = last
first_name f (t ∷ ts) last = cond (f t) (some t) (first_name f ts last)

-- the castling text of a castling pair with a king on its source, otherwise what follows
unfoldable pub king_first : Bool → Option (List ℕ) → Option (List ℕ) → Option (List ℕ)
king_first true (some t) other = some t
king_first true none other = other
king_first false castling other = other

-- a king on the source of a castling pair gives the castling text; failing that, the first text that resolves; failing that, the form's last resort
unfoldable pub name_of : Form → BoardBuilder → List ℕ → ℕ → Option (List ℕ)
name_of F b moves m =
    let castling = castling_name b.side_to_move m in
    king_first (eqb (kind_on b.pieces (source_of m)) 6) castling
    (first_name (names F b moves m) (candidates (F.text b.pieces m) (changes_files b.pieces m)) (F.resort castling))

-- ---- what the namer writes, and its checks before 7: 5, 6, 11, 8

abbrev pub text_or : Option (List ℕ) → List ℕ
text_or none = []
text_or (some t) = t

abbrev pub none_is8 : Option (List ℕ) → ℕ
none_is8 none = no_name
none_is8 (some t) = 0

unfoldable pub name_text : Form → BoardBuilder → List ℕ → ℕ → List ℕ
name_text F b moves m = text_or (name_of F b moves m)

unfoldable pub name_check : Form → BoardBuilder → List ℕ → ℕ → ℕ
name_check F b moves m =
    cond (in_range b) (cond (list_in_range moves) (cond (among m moves) (none_is8 (name_of F b moves m)) not_listed) bad_list) out_of_range
