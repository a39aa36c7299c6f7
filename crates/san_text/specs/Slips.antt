-- Points of document 01 that a slip would break, each at its smallest position: the slips that it names, and what was decided where it left room.
-- Assumes nothing.
use Rattle.std.specs.Prelude.{ℕ, ◌≡◌, List, [], ◌∷◌, length, replicate, take}
use Prim.Native.String.{String}
use Rattle.answer.specs.Answer.{accepted, refused, invalid_san_move, no_name}
use Rattle.answer.specs.Ascii.{ascii}
use Rattle.board_builder.specs.declared.BoardBuilder.{BoardBuilder}
use Rattle.board_builder.specs.BoardBuilder.{empty_board}
use Rattle.board_builder.specs.Steps.{with_piece}
use Rattle.san_text.specs.Paper.{from_san, name_answer, name_bytes}

-- a text is read as the move, or refused with 4
abbrev pub Reads : BoardBuilder → List ℕ → String → ℕ → Type 0
Reads b moves text m = from_san b moves (ascii text) ≡ accepted m

abbrev pub Refuses : BoardBuilder → List ℕ → String → Type 0
Refuses b moves text = from_san b moves (ascii text) ≡ refused invalid_san_move

-- a move is named so, in a room of eleven bytes
pub record Named (b : BoardBuilder) (moves : List ℕ) (m : ℕ) (name : String) : Type 0 where
  pub answer : name_answer b moves m 11 ≡ accepted (length (ascii name))
  pub text : take (length (ascii name)) (name_bytes b moves m (replicate 11 0)) ≡ ascii name

-- white knights on b1 and e2, a black pawn on c3, white rook and black king on e1, white pawns on e5 and e7
abbrev pub knight : BoardBuilder
knight = with_piece empty_board 1 2

abbrev pub knights : BoardBuilder
knights = with_piece knight 12 2

abbrev pub knight_and_pawn : BoardBuilder
knight_and_pawn = with_piece knight 18 7

abbrev pub rook : BoardBuilder
rook = with_piece empty_board 4 4

abbrev pub black_king : BoardBuilder
black_king = with_piece empty_board 4 12

abbrev pub only_pawn : BoardBuilder
only_pawn = with_piece empty_board 36 1

abbrev pub promoting : BoardBuilder
promoting = with_piece empty_board 52 1

pub record Slips : Type 0 where
  -- "letting a second fit through because the text says `x`": two knights to an occupied c3
  pub second_fit : Refuses (with_piece knights 18 7) (1153 ∷ 1164 ∷ []) "Nxc3"
  -- "refusing `Nc3x` when c3 is occupied and one knight fits"
  pub takes_behind : Reads knight_and_pawn (1153 ∷ []) "Nc3x" 1153
  -- "equal entries count twice"
  pub equal_entries : Refuses knight (1153 ∷ 1153 ∷ []) "Nc3"
  -- the mark without `x` still needs an empty destination
  pub mark_alone : Refuses knight_and_pawn (1153 ∷ []) "Nc3 e.p."
  -- "optional `+` or `#`, and a mark if what is left is exactly ` e.p.`": one sign of either kind before the mark, and no second
  pub check_then_mark : Reads only_pawn (2788 ∷ []) "exd6+ e.p." 2788
  pub mate_then_mark : Reads only_pawn (2788 ∷ []) "exd6# e.p." 2788
  pub one_sign : Refuses only_pawn (2788 ∷ []) "exd6+# e.p."
  -- a king of either colour on the source of a castling pair gives the castling text
  pub either_king : Named black_king (388 ∷ []) 388 "O-O"
  -- `e8K` would read as the move without promotion, so the move with promotion 6 has no name
  pub no_king_promotion : name_answer promoting (3892 ∷ 28468 ∷ []) 28468 11 ≡ refused no_name
