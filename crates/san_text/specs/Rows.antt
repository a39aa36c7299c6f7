-- The standard's form at its smallest positions (document 02, order 6), as rows: each a text and what it resolves to, or a move and its name.
-- Assumes nothing.
use Rattle.std.specs.Prelude.{ℕ, ◌≡◌, List, [], ◌∷◌, length, replicate, take, set}
use Prim.Native.String.{String}
use Rattle.answer.specs.Answer.{accepted, refused, invalid_san_move, no_name, out_of_range, bad_list, not_listed}
use Rattle.answer.specs.Ascii.{ascii}
use Rattle.board_builder.specs.declared.BoardBuilder.{BoardBuilder}
use Rattle.board_builder.specs.Steps.{with_piece}
use Rattle.board_builder.specs.BoardBuilder.{board}
use Rattle.san_text.specs.Standard.{from_san_standard, standard_name_answer, standard_name_bytes}
use Rattle.san_text.specs.Slips.{knight, knight_and_pawn, rook, black_king, only_pawn, promoting}

-- a text is read as the move, or refused with 4; a move is named so
abbrev pub StandardReads : BoardBuilder → List ℕ → String → ℕ → Type 0
StandardReads b moves text m = from_san_standard b moves (ascii text) ≡ accepted m

abbrev pub StandardRefuses : BoardBuilder → List ℕ → String → Type 0
StandardRefuses b moves text = from_san_standard b moves (ascii text) ≡ refused invalid_san_move

pub record StandardNamed (b : BoardBuilder) (moves : List ℕ) (m : ℕ) (name : String) : Type 0 where
  pub answer : standard_name_answer b moves m 8 ≡ accepted (length (ascii name))
  pub text : take (length (ascii name)) (standard_name_bytes b moves m (replicate 8 0)) ≡ ascii name

-- white pawns on e5 and d5, to d6: with a man on d6 the straight one needs `x` and its file as well
abbrev pub straight : BoardBuilder
straight = with_piece (with_piece only_pawn 35 1) 43 7

pub record StandardRows : Type 0 where
  -- promotion needs `=`
  pub equals : StandardReads promoting (24372 ∷ []) "e8=Q#" 24372
  pub no_equals : StandardRefuses promoting (24372 ∷ []) "e8Q"
  pub named_equals : StandardNamed promoting (24372 ∷ []) 24372 "e8=Q"
  -- the destination is the last square, no tail is dropped, one mark at most
  pub takes_behind : StandardRefuses knight_and_pawn (1153 ∷ []) "Nc3x"
  pub tail : StandardRefuses knight (1153 ∷ []) "Nc3+?!"
  pub two_marks : StandardRefuses knight (1153 ∷ []) "Nc3+#"
  -- an en passant capture has `x` and the file, and no mark
  pub en_passant : StandardReads only_pawn (2788 ∷ []) "exd6" 2788
  pub without : StandardRefuses only_pawn (2788 ∷ []) "d6"
  pub marked : StandardRefuses only_pawn (2788 ∷ []) "exd6 e.p."
  pub named_en_passant : StandardNamed only_pawn (2788 ∷ []) 2788 "exd6"
  -- a pawn's `x` needs its file, also straight on
  pub fileless : StandardRefuses straight (2788 ∷ []) "xd6"
  pub straight_on : StandardNamed straight (2787 ∷ []) 2787 "dxd6"
  -- castling needs a king, of either colour, and takes a check mark; a listed pair twice is still taken
  pub rook_on_e : StandardRefuses rook (388 ∷ []) "O-O"
  pub castling : StandardReads black_king (388 ∷ 388 ∷ []) "O-O+" 388
  pub rook_named : StandardNamed rook (388 ∷ []) 388 "Rg1"
  -- and no last resort: document 01's namer says `O-O` here
  pub no_resort : standard_name_answer rook (388 ∷ 388 ∷ []) 388 8 ≡ refused no_name
  pub black_castles : StandardReads (board (set (replicate 64 0) 60 12) 1 0 0 0) (4028 ∷ []) "O-O" 4028
  pub five_before_six : from_san_standard (board (replicate 64 0) 2 0 0 0) (28672 ∷ []) [] ≡ refused out_of_range
  pub six_before_four : from_san_standard (board (replicate 64 0) 0 0 0 0) (28672 ∷ []) [] ≡ refused bad_list
  pub name_five_first : standard_name_answer (board (replicate 64 0) 2 0 0 0) (28672 ∷ []) 1 0 ≡ refused out_of_range
  pub name_six_next : standard_name_answer (board (replicate 64 0) 0 0 0 0) (28672 ∷ []) 1 0 ≡ refused bad_list
  pub name_eleven_next : standard_name_answer (board (replicate 64 0) 0 0 0 0) (0 ∷ []) 1 0 ≡ refused not_listed
  pub name_eight_next : standard_name_answer (board (replicate 64 0) 0 0 0 0) (0 ∷ []) 0 0 ≡ refused no_name
  pub mate_mark : StandardReads black_king (388 ∷ []) "O-O#" 388
  pub queen_side_mark : StandardReads black_king (132 ∷ []) "O-O-O+" 132
  pub straight_no_x : StandardRefuses only_pawn (2852 ∷ []) "exe6"
  pub without_x : StandardRefuses straight (2788 ∷ []) "ed6"
  pub rank_alone : StandardRefuses straight (2788 ∷ []) "5xd6"
  pub bare_equals : StandardRefuses promoting (3892 ∷ []) "e8="
  pub suffix : StandardRefuses knight (1153 ∷ []) "Nc3!"
