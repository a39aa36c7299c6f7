-- What a form has to keep for its names and its reader to agree. What follows from it is in Named.
-- Assumes nothing.
use Prim.Native.Nat.{ℕ, ◌+◌, ◌*◌}
use mathlib.Core.Path.{◌≡◌}
use mathlib.Core.Bool.{Bool, true}
use mathlib.Core.List.{List}
use mathlib.Core.Option.{Option, none}
use Rattle.std.specs.Prelude.{Some}
use Rattle.board_builder.specs.declared.BoardBuilder.{BoardBuilder}
use Rattle.chess_move.specs.Number.{source_of, promotion_of}
use Rattle.san_text.specs.declared.SanText.TheVariants.{KingSide, QueenSide, Move}
use Rattle.san_text.specs.Text.{king_side_text, queen_side_text}
use Rattle.san_text.specs.Resolve.{kind_on}
use Rattle.san_text.specs.Form.{Form}
use Rattle.san_text.proofs.Says.{Moves, Promotes, Says}
use Rattle.san_text.proofs.Front.{both_with}

-- the kind of man on file e of the back rank of the side to move
abbrev pub kind_on_e : BoardBuilder → ℕ
kind_on_e b = kind_on b.pieces (56 * b.side_to_move + 4)

-- castling on a board: taken whatever stands on e, with the castling text as the last resort; or taken only for a king there, with no
-- last resort
pub data Castling (F : Form) (b : BoardBuilder) : Type 0 where
  whatever_stands : F.castles b ≡ true → ((o : Option (List ℕ)) → F.resort o ≡ o) → Castling F b
  for_a_king : (kind_on_e b ≡ 6 → F.castles b ≡ true) → (F.castles b ≡ true → kind_on_e b ≡ 6) → ((o : Option (List ℕ)) → F.resort o ≡ none) → Castling F b

-- the text of a move with both source parts: it is read as saying the move's own parts, and passes the form's test for the move
pub record Both (F : Form) (pieces : List ℕ) (m : ℕ) : Type 0 where
  pub takes : Bool
  pub mark : Bool
  pub reads : F.read (F.text pieces m true true) ≡ Some (Move (both_with pieces m takes mark))
  pub passes : F.captures pieces (both_with pieces m takes mark) m ≡ true

pub record Lawful (F : Form) : Type 0 where
  pub says : (s : List ℕ) → Says (F.read s)
  pub both : (pieces : List ℕ) (m : ℕ) → Moves (kind_on pieces (source_of m)) → Promotes (promotion_of m) → Both F pieces m
  pub king_side : F.read king_side_text ≡ Some KingSide
  pub queen_side : F.read queen_side_text ≡ Some QueenSide
  pub castling : (b : BoardBuilder) → Castling F b
