-- Move text byte by byte (document 02, order 8): bytes beside those that mean something, what stands between a place and the next move, and walks from place
-- to place, each answer written out.
-- Assumes nothing.
use Rattle.std.specs.Prelude.{ℕ, ◌≡◌, List, [], ◌∷◌}
use Prim.Native.String.{String}
use Rattle.std.specs.Borrow.{Bor}
use Rattle.answer.specs.Ascii.{ascii}
use Rattle.pgn_text.specs.declared.Token.TheVariants.{Move, Opening}
use Rattle.pgn_text.specs.declared.PgnMove.{PgnMove}
use Rattle.pgn_text.specs.Token.{token_at}
use Rattle.pgn_text.specs.Walk.{walk_from, check, next_move, part}
use Rattle.pgn_text.specs.Between.{crossed_from, next_across}
use Rattle.pgn_text.specs.Promises.{walked, moves_of, end_number, end_offset}
use Rattle.pgn_text.specs.AtSmallest.{Accepts, Refuses}
use Rattle.pgn.specs.Reader.{placed}

-- a byte by itself is unknown
abbrev pub UnknownByte : ℕ → Type 0
UnknownByte b = check (b ∷ []) ≡ record { number = 23; offset = 0; moves = 0 }

pub record BytesBeside : Type 0 where
  -- white space is 9, 10, 13 and 32 alone
  pub white : (UnknownByte 8) × (UnknownByte 11) × (UnknownByte 12) × (UnknownByte 14) × (UnknownByte 31) × (UnknownByte 33)
  -- a brace comment ends at its brace, and not at the byte behind it, `~`
  pub brace : Accepts "{~}e4" 1
  -- `,` before `-`, `/` before `0` and `1`, and `!` before `$`: no result, and no glyph
  pub comma : Refuses "0,1" 23 1
  pub slash_one : Refuses "/-1" 23 0
  pub slash_nought : Refuses "/-0" 23 0
  pub no_glyph : Refuses "!1" 23 0
  -- the token at an offset is decided by the byte there and those behind it
  pub move_at : token_at (ascii "(4 Nf3") 3 ≡ Move 2
  pub bracket_at : token_at (ascii "e4 (d4") 3 ≡ Opening
  pub part_of : part (ascii "e4 Nbd2 e5") 3 4 ≡ ascii "Nbd2"

-- the brackets between a place and the next move
abbrev pub Between : String → ℕ → ℕ → ℕ → Type 0
Between text offset closed opened = crossed_from (ascii text) offset ≡ record { closed = closed; opened = opened }

pub record BracketsBetween : Type 0 where
  -- a closing bracket closes the one opened last, and nothing behind it is passed over
  pub one_left : Between "(()e5" 0 0 1
  pub two_left : Between "((()e5" 0 0 2
  -- a comment in between changes nothing
  pub comment : Between "))({xx}e5" 0 2 1
  -- no move comes: a comment is left open, a byte is unknown, the text ends
  pub left_open_fact : Between ")(( {x" 0 0 0
  pub unknown : Between ")(( %" 0 0 0
  pub no_more : Between ")((" 0 0 0
  -- both in one answer, from level 5: three levels are left and two entered
  pub across : next_across (ascii ")))  ((Nbxd2") 0 5
      ≡ record { number = 0; offset = 0; found = 1; start = 7; length = 5; level = 4; closed = 3; opened = 2 }
  pub refused : next_across (ascii "e4 (( %") 2 0 ≡ record { number = 23; offset = 6; found = 0; start = 0; length = 0; level = 0; closed = 0; opened = 0 }

-- a move at a place, and none
abbrev pub move_at_place : ℕ → ℕ → ℕ → PgnMove
move_at_place start size level = record { number = 0; offset = 0; found = 1; start = start; length = size; level = level }

abbrev pub none_left : PgnMove
none_left = record { number = 0; offset = 0; found = 0; start = 0; length = 0; level = 0 }

pub record WalksFromPlaces : Type 0 where
  pub all : walked next_move (ascii "e4 (Nd4) e5") 3 0 0 ≡ move_at_place 0 2 0 ∷ move_at_place 4 3 1 ∷ move_at_place 9 2 0 ∷ none_left ∷ []
  pub behind : walked next_move (ascii "e4 (Nd4) e5") 1 7 1 ≡ move_at_place 9 2 0 ∷ none_left ∷ []
  pub last : walked next_move (ascii "e4 (Nd4) e5") 0 7 1 ≡ move_at_place 9 2 0 ∷ []
  -- the moves of the walk over the whole text, and how it ends
  pub moves : moves_of (walk_from (ascii "e4 (Nd4) e5") 0 0) ≡ move_at_place 0 2 0 ∷ move_at_place 4 3 1 ∷ move_at_place 9 2 0 ∷ []
  pub number : end_number (walk_from (ascii "e4 (Nd4") 0 0) ≡ 21
  pub offset : end_offset (walk_from (ascii "e4 (Nd4") 0 0) ≡ 3

-- the reader of crate pgn at a place of any text: the offset, then the level
pub record ReaderAtPlace : Type 0 where
  pub text : (text : Bor (List ℕ)) → (placed text 5 1).text ≡ text
  pub offset : (text : Bor (List ℕ)) → (placed text 5 1).offset ≡ 5
  pub level : (text : Bor (List ℕ)) → (placed text 5 1).level ≡ 1
