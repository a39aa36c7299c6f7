-- SAN texts over positions as FENs and moves as coordinate texts: what document 01's form and the standard's (document 02, order 6) read and write, a row or
-- more for each word of the rules.
-- Assumes nothing.
use Rattle.std.specs.Prelude.{ℕ, ◌≡◌, true, false, List, [], ◌∷◌, ◌++◌, length, replicate, Some}
use Prim.Native.String.{String}
use Rattle.answer.specs.Answer.{accepted, refused, invalid_san_move}
use Rattle.answer.specs.Ascii.{ascii}
use Rattle.board_builder.specs.declared.BoardBuilder.{BoardBuilder}
use Rattle.chess_move.specs.Coordinate.{read_move}
use Rattle.fen_text.specs.Read.{read_fen}
use Rattle.san_text.specs.declared.SanText.TheVariants.{Move}
use Rattle.san_text.specs.Form.{read_answer}
use Rattle.san_text.specs.Forms.{form_of, castling_in, dest_in}
use Rattle.san_text.specs.Paper.{paper, from_san, name_answer, name_bytes}
use Rattle.san_text.specs.Standard.{from_san_standard, standard_name_answer, standard_name_bytes}
use Rattle.san_lists.specs.Calls.{calls_of}

abbrev pub board_in : String → BoardBuilder
board_in fen = (read_fen (ascii fen)).board

abbrev pub move_in : String → ℕ
move_in text = (read_move (ascii text)).value

unfoldable pub list_in : List String → List ℕ
list_in [] = []
list_in (t ∷ ts) = move_in t ∷ list_in ts

-- a position, a list and a SAN text: the move that it names, or 4; in document 01's form, in the standard's
abbrev pub Says : String → List String → String → String → Type 0
Says fen list text move = from_san (board_in fen) (list_in list) (ascii text) ≡ accepted (move_in move)

abbrev pub SaysNone : String → List String → String → Type 0
SaysNone fen list text = from_san (board_in fen) (list_in list) (ascii text) ≡ refused invalid_san_move

abbrev pub StandardSays : String → List String → String → String → Type 0
StandardSays fen list text move = from_san_standard (board_in fen) (list_in list) (ascii text) ≡ accepted (move_in move)

abbrev pub StandardSaysNone : String → List String → String → Type 0
StandardSaysNone fen list text = from_san_standard (board_in fen) (list_in list) (ascii text) ≡ refused invalid_san_move

-- a move's name, in a room of just its length; and it reads back
pub record Writes (fen : String) (list : List String) (move name : String) : Type 0 where
  pub answer : name_answer (board_in fen) (list_in list) (move_in move) (length (ascii name)) ≡ accepted (length (ascii name))
  pub text : name_bytes (board_in fen) (list_in list) (move_in move) (replicate (length (ascii name)) 9) ≡ ascii name
  pub back : Says fen list name move

pub record StandardWrites (fen : String) (list : List String) (move name : String) : Type 0 where
  pub answer : standard_name_answer (board_in fen) (list_in list) (move_in move) (length (ascii name)) ≡ accepted (length (ascii name))
  pub text : standard_name_bytes (board_in fen) (list_in list) (move_in move) (replicate (length (ascii name)) 9) ≡ ascii name
  pub back : StandardSays fen list name move

pub record InDocument01 : Type 0 where
  -- castling: `O-O` and `O-O-O`, the king from file e to g or c on the back rank of the side to move, if listed
  pub long : Writes "8/8/8/8/8/8/8/R3K3 w Q -" ("e1d1" ∷ "e1c1" ∷ []) "e1c1" "O-O-O"
  pub black_short : Writes "4k2r b k -" ("e8d8" ∷ "e8g8" ∷ []) "e8g8" "O-O"
  pub black_long : Writes "r3k3 b q -" ("e8d8" ∷ "e8c8" ∷ []) "e8c8" "O-O-O"
  pub not_listed_fact : SaysNone "8/8/8/8/8/8/8/4K2R w K -" ("e1d1" ∷ []) "O-O"
  -- the letters N B R Q K, and none for a pawn
  pub by_knight : Writes "8/8/8/8/8/8/8/1N6 w - -" ("b1a3" ∷ "b1c3" ∷ []) "b1c3" "Nc3"
  pub by_bishop : Writes "8/8/8/8/8/8/8/5B2 w - -" ("f1e2" ∷ "f1c4" ∷ []) "f1c4" "Bc4"
  pub by_rook : Writes "8/8/8/8/8/8/8/R7 w - -" ("a1a2" ∷ "a1a8" ∷ []) "a1a8" "Ra8"
  pub by_queen : Writes "8/8/8/8/8/8/8/3Q4 w - -" ("d1d2" ∷ "d1h5" ∷ []) "d1h5" "Qh5"
  pub by_king : Writes "8/8/8/8/8/8/8/4K3 w - -" ("e1d1" ∷ "e1e2" ∷ []) "e1e2" "Ke2"
  pub by_pawn : Writes "8/8/8/8/8/8/4P3/8 w - -" ("e2e3" ∷ "e2e4" ∷ []) "e2e4" "e4"
  -- a kind that stands on no source
  pub other_kind : SaysNone "8/8/8/8/8/8/8/1N6 w - -" ("b1c3" ∷ []) "Bc3"
  -- promotions: N B R Q right behind the square, and it must be the entry's
  pub to_knight : Writes "8/P7/8/8/8/8/8/8 w - -" ("a7a8q" ∷ "a7a8r" ∷ "a7a8b" ∷ "a7a8n" ∷ []) "a7a8n" "a8N"
  pub to_bishop : Writes "8/P7/8/8/8/8/8/8 w - -" ("a7a8q" ∷ "a7a8r" ∷ "a7a8b" ∷ "a7a8n" ∷ []) "a7a8b" "a8B"
  pub to_rook : Writes "8/P7/8/8/8/8/8/8 w - -" ("a7a8q" ∷ "a7a8r" ∷ "a7a8b" ∷ "a7a8n" ∷ []) "a7a8r" "a8R"
  pub to_queen : Writes "8/P7/8/8/8/8/8/8 w - -" ("a7a8q" ∷ "a7a8r" ∷ "a7a8b" ∷ "a7a8n" ∷ []) "a7a8q" "a8Q"
  pub to_nothing : SaysNone "8/P7/8/8/8/8/8/8 w - -" ("a7a8q" ∷ []) "a8"
  -- which source: none, file, rank, both
  pub by_file : Writes "8/8/8/8/8/8/8/R6R w - -" ("a1d1" ∷ "h1d1" ∷ []) "h1d1" "Rhd1"
  pub by_rank : Writes "8/8/8/R7/8/8/8/R7 w - -" ("a1a3" ∷ "a5a3" ∷ []) "a5a3" "R5a3"
  pub by_both : Writes "8/8/8/8/4Q2Q/8/8/7Q w - -" ("e4e1" ∷ "h4e1" ∷ "h1e1" ∷ []) "h4e1" "Qh4e1"
  pub pawn_by_both : Writes "8/4p3/3n4/4P3/8/8/8/8 w - -" ("e5d6" ∷ "e7d6" ∷ []) "e5d6" "e5xd6"
  -- `x` and the mark: none beside a man that is taken; the mark behind a promotion
  pub no_mark : Writes "8/8/3n4/4P3/8/8/8/8 w - -" ("e5d6" ∷ []) "e5d6" "exd6"
  pub mark_last : Writes "8/4P3/8/8/8/8/8/8 w - -" ("e7d8q" ∷ []) "e7d8q" "exd8Q e.p."
  -- i and 9 are no places, and a square has a file and a rank
  pub no_file : SaysNone "8/8/8/8/8/8/8/1N6 w - -" ("b1a4" ∷ []) "Ni3"
  pub no_rank : SaysNone "8/8/8/8/8/8/8/1N6 w - -" ("b1c3" ∷ "b1c8" ∷ []) "Nc9"
  pub rank_alone : SaysNone "8/8/8/8/8/8/8/1N6 w - -" ("b1h2" ∷ "b1a1" ∷ []) "N?3"
  pub file_alone : SaysNone "8/8/8/8/8/8/8/1N6 w - -" ("b1c1" ∷ "b1a1" ∷ []) "Nc?"
  pub file_only : SaysNone "8/8/8/8/8/8/4P3/8 w - -" ("e2a1" ∷ "e2e1" ∷ []) "e"
  -- what stands behind the name in the room stays
  pub room_behind : name_bytes (board_in "8/8/8/8/8/8/8/1N6 w - -") (list_in ("b1c3" ∷ [])) (move_in "b1c3") (replicate 5 9) ≡ ascii "Nc3" ++ (9 ∷ 9 ∷ [])
  pub lists_room_behind : (calls_of paper).name.room (board_in "8/8/8/8/8/8/8/1N6 w - -") (list_in ("b1c3" ∷ [])) (move_in "b1c3") (replicate 5 9)
      ≡ ascii "Nc3" ++ (9 ∷ 9 ∷ [])
  -- a room that is too short: 7 with the length needed, and nothing is written
  pub room_short : name_answer (board_in "8/8/8/8/8/8/8/1N6 w - -") (list_in ("b1c3" ∷ [])) (move_in "b1c3") 2 ≡ record { number = 7; value = 3 }
  pub room_left : name_bytes (board_in "8/8/8/8/8/8/8/1N6 w - -") (list_in ("b1c3" ∷ [])) (move_in "b1c3") (replicate 2 9) ≡ replicate 2 9
  -- the lower file, the lower square and the lower kind: none of them stands for the higher too
  pub by_lower_file : Writes "8/8/8/8/8/8/8/R6R w - -" ("a1d1" ∷ "h1d1" ∷ []) "a1d1" "Rad1"
  pub lower_square : Writes "8/8/8/8/8/8/8/1N6 w - -" ("b1c3" ∷ "b1d2" ∷ []) "b1d2" "Nd2"
  pub lower_kind : SaysNone "8/8/8/8/8/8/8/1B6 w - -" ("b1c3" ∷ []) "Nc3"
  -- a pawn that changes to the file on its right; a king's move from another square, with a lower number than castling has
  pub to_the_right : Writes "8/8/8/3P4/8/8/8/8 w - -" ("d5e6" ∷ []) "d5e6" "dxe6 e.p."
  pub king_on_a1 : Writes "8/8/8/8/8/8/8/K7 w - -" ("a1b1" ∷ []) "a1b1" "Kb1"
  -- a move from an empty square has no name, also where a pawn's move to that square does
  pub from_nothing : name_answer (board_in "8/8/8/8/8/8/2P5/8 w - -") (list_in ("b1c3" ∷ "c2c3" ∷ [])) (move_in "b1c3") 9 ≡ record { number = 8; value = 0 }
  -- `?` is no sign of check, and `y` is no `x`
  pub no_check_sign : SaysNone "8/8/8/4P3/8/8/8/8 w - -" ("e5d6" ∷ []) "exd6? e.p."
  pub no_takes : SaysNone "8/8/8/8/8/2p5/8/1N6 w - -" ("b1c3" ∷ []) "Nyc3"

pub record InTheStandard : Type 0 where
  pub long : StandardWrites "8/8/8/8/8/8/8/R3K3 w Q -" ("e1d1" ∷ "e1c1" ∷ []) "e1c1" "O-O-O"
  pub black_short : StandardWrites "4k2r b k -" ("e8d8" ∷ "e8g8" ∷ []) "e8g8" "O-O"
  pub black_long : StandardWrites "r3k3 b q -" ("e8d8" ∷ "e8c8" ∷ []) "e8c8" "O-O-O"
  pub long_check : StandardSays "8/8/8/8/8/8/8/R3K3 w Q -" ("e1c1" ∷ []) "O-O-O+" "e1c1"
  pub long_mate : StandardSays "8/8/8/8/8/8/8/R3K3 w Q -" ("e1c1" ∷ []) "O-O-O#" "e1c1"
  pub short_mate : StandardSays "8/8/8/8/8/8/8/4K2R w K -" ("e1g1" ∷ []) "O-O#" "e1g1"
  pub no_other_mark : StandardSaysNone "8/8/8/8/8/8/8/4K2R w K -" ("e1g1" ∷ []) "O-O!"
  pub not_listed_fact : StandardSaysNone "8/8/8/8/8/8/8/4K2R w K -" ("e1d1" ∷ []) "O-O"
  pub to_bishop : StandardWrites "8/P7/8/8/8/8/8/8 w - -" ("a7a8q" ∷ "a7a8r" ∷ "a7a8b" ∷ "a7a8n" ∷ []) "a7a8b" "a8=B"
  pub promoted_taking : StandardWrites "3n4/4P3/8/8/8/8/8/8 w - -" ("e7d8q" ∷ "e7e8q" ∷ []) "e7d8q" "exd8=Q"
  pub promoted_mate : StandardSays "8/P7/8/8/8/8/8/8 w - -" ("a7a8q" ∷ []) "a8=Q#" "a7a8q"
  pub promoted_twice : StandardSaysNone "8/P7/8/8/8/8/8/8 w - -" ("a7a8q" ∷ []) "a8=QQ"
  pub no_piece_behind : StandardSaysNone "8/P7/8/8/8/8/8/8 w - -" ("a7a8" ∷ []) "a8="
  pub knight_takes : StandardWrites "8/8/8/8/8/2p5/8/1N6 w - -" ("b1a3" ∷ "b1c3" ∷ []) "b1c3" "Nxc3"
  pub takes_without : StandardSaysNone "8/8/8/8/8/2p5/8/1N6 w - -" ("b1c3" ∷ []) "Nc3"
  pub pawn_takes_without : StandardSaysNone "8/8/3n4/4P3/8/8/8/8 w - -" ("e5d6" ∷ []) "ed6"
  pub straight_takes : StandardSaysNone "8/8/8/4P3/8/8/8/8 w - -" ("e5e6" ∷ []) "exe6"
  pub rank_takes : StandardSaysNone "8/8/3n4/4P3/8/8/8/8 w - -" ("e5d6" ∷ []) "5xd6"
  pub comment_behind : StandardSaysNone "8/8/8/8/8/8/8/1N6 w - -" ("b1c3" ∷ []) "Nc3!"
  pub piece_only : StandardSaysNone "8/8/8/8/8/1N6/8/8 w - -" ("b3a1" ∷ []) "N"
  pub file_only : StandardSaysNone "8/8/8/8/8/8/4P3/8 w - -" ("e2a1" ∷ "e2e1" ∷ []) "e"
  pub room_behind : standard_name_bytes (board_in "8/8/8/8/8/8/8/1N6 w - -") (list_in ("b1c3" ∷ [])) (move_in "b1c3") (replicate 5 9) ≡ ascii "Nc3" ++
      (9 ∷ 9 ∷ [])
  pub room_short : standard_name_answer (board_in "8/8/8/8/8/8/8/1N6 w - -") (list_in ("b1c3" ∷ [])) (move_in "b1c3") 2 ≡ record { number = 7; value = 3 }
  pub room_left : standard_name_bytes (board_in "8/8/8/8/8/8/8/1N6 w - -") (list_in ("b1c3" ∷ [])) (move_in "b1c3") (replicate 2 9) ≡ replicate 2 9
  pub to_the_right : StandardWrites "8/8/8/3P4/8/8/8/8 w - -" ("d5e6" ∷ []) "d5e6" "dxe6"
  pub by_rank : StandardWrites "8/8/8/R7/8/8/8/R7 w - -" ("a1a3" ∷ "a5a3" ∷ []) "a5a3" "R5a3"
  -- `?` is no sign of check, and no `=`
  pub no_check_sign : StandardSaysNone "8/8/8/8/8/8/8/1N6 w - -" ("b1c3" ∷ []) "Nc3?"
  pub no_equals_sign : StandardSaysNone "8/P7/8/8/8/8/8/8 w - -" ("a7a8q" ∷ []) "a8?Q"

-- the two forms by their flag: true is the standard's
pub record FormsByFlag : Type 0 where
  pub standard_read : read_answer (form_of true) (board_in "8/P7/8/8/8/8/8/8 w - -") (list_in ("a7a8q" ∷ [])) (ascii "a8=Q") ≡ accepted (move_in "a7a8q")
  pub paper_read : read_answer (form_of false) (board_in "8/P7/8/8/8/8/8/8 w - -") (list_in ("a7a8q" ∷ [])) (ascii "a8Q") ≡ accepted (move_in "a7a8q")
  -- a castling text, with a sign of check, and what is none
  pub standard_castling : castling_in true (ascii "O-O+") (ascii "O-O") ≡ true
  pub standard_none : castling_in true (ascii "O-O-O") (ascii "O-O") ≡ false
  pub paper_castling : castling_in false (ascii "O-O") (ascii "O-O") ≡ true
  pub paper_none : castling_in false (ascii "O-O+") (ascii "O-O") ≡ false
  -- from the destination on: a pawn to a8, by its file and rank
  pub standard_on : dest_in true 0 1 8 false (ascii "=Q")
      ≡ Some (Move (record { piece = 1; file = 0; rank = 0; takes = false; dest = 56; promotion = 5; mark = false }))
  pub paper_on : dest_in false 0 1 8 false (ascii "Q e.p.")
      ≡ Some (Move (record { piece = 1; file = 0; rank = 0; takes = false; dest = 56; promotion = 5; mark = true }))
