-- The FEN rows of document 01's table, "Positions and texts to try", with the numbers of document 02, order 2, black's en passant rank,
-- and the initial position of 001's test.
-- Assumes nothing.
use Rattle.std.specs.Prelude.{ℕ, ◌≡◌, replicate}
use Prim.Native.String.{String}
use Rattle.answer.specs.Answer.{too_few_tokens, bad_placement, out_of_range}
use Rattle.answer.specs.Ascii.{ascii}
use Rattle.board_builder.specs.BoardBuilder.{board, squares, initial_board}
use Rattle.fen_text.specs.Read.{read_fen, refused_at, fen_of}
use Rattle.fen_text.specs.Write.{fen_text, fen_check}
use Rattle.fen_text.specs.Promises.{key_of}

-- a text is accepted, and its record is written as the other
abbrev pub Writes : String → String → Type 0
Writes text key = ((read_fen (ascii text)).number ≡ 0) × (key_of (ascii text) ≡ ascii key)

-- a text is refused with a number and an offset
abbrev pub Refused : String → ℕ → ℕ → Type 0
Refused text number offset = read_fen (ascii text) ≡ refused_at number offset

pub record FenRows : Type 0 where
  pub empty_placement : Writes " w - -" "8/8/8/8/8/8/8/8 w - - 0 1"
  pub three_tokens : Refused "8/8 w -" too_few_tokens 7
  pub nine : Refused "8/8/8/8/8/8/8/9 w - -" bad_placement 14
  pub en_passant_rank : Writes "8/8/8/8/8/8/8/8 w - e4" "8/8/8/8/8/8/8/8 w - e6 0 1"
  pub blacks_en_passant_rank : Writes "8/8/8/8/8/8/8/8 b - e6" "8/8/8/8/8/8/8/8 b - e3 0 1"
  pub bad_en_passant : Writes "8/8/8/8/8/8/8/8 b - z9" "8/8/8/8/8/8/8/8 b - - 0 1"
  -- "a slash goes one rank down and to file a; a digit 1 to 8 adds to the file; files and ranks step around modulo 8"
  pub slash_to_a : Writes "1K/K w - -" "1K6/K7/8/8/8/8/8/8 w - - 0 1"
  pub letter_around : Writes "PPPPPPPPN w - -" "NPPPPPPP/8/8/8/8/8/8/8 w - - 0 1"
  pub digit_around : Writes "44K3k w - -" "K3k3/8/8/8/8/8/8/8 w - - 0 1"
  pub rank_around : Writes "////////K w - -" "K7/8/8/8/8/8/8/8 w - - 0 1"
  -- "any other byte is refused": each of the others may stand; 0 may not
  pub zero : Refused "0 w - -" bad_placement 0
  pub each_sign : Refused "/12345678PNBRQKpnbrqkx w - -" bad_placement 21
  -- "fewer than four tokens", of which the last may be empty
  pub two_tokens : Refused "8 w" too_few_tokens 3
  pub empty_last : Writes "8 w - " "8/8/8/8/8/8/8/8 w - - 0 1"
  -- "side is w, W, b or B"
  pub upper_white : Writes " W - -" "8/8/8/8/8/8/8/8 w - - 0 1"
  pub upper_black : Writes " B - -" "8/8/8/8/8/8/8/8 b - - 0 1"
  -- "each right holds if its letter occurs anywhere in the third token": white's K is 1, black's q is 2, and so they are written
  pub anywhere : Writes " w kxK -" "8/8/8/8/8/8/8/8 w Kk - 0 1"
  pub rights_read : read_fen (ascii " w Kq -") ≡ fen_of (board (replicate squares 0) 0 1 2 0)
  pub rights_written : fen_text (board (replicate squares 0) 0 1 2 0) ≡ ascii "8/8/8/8/8/8/8/8 w Kq - 0 1"
  pub white_alone : Writes " w Q -" "8/8/8/8/8/8/8/8 w Q - 0 1"
  pub black_alone : Writes " w k -" "8/8/8/8/8/8/8/8 w k - 0 1"
  -- the fourth token: a bad rank sets no file, what follows two good bytes is dropped
  pub bad_rank : Writes " w - a9" "8/8/8/8/8/8/8/8 w - - 0 1"
  pub rest_dropped : Writes " w - a1xx" "8/8/8/8/8/8/8/8 w - a6 0 1"
  -- the writer's check
  pub no_record : fen_check (board (replicate squares 0) 2 0 0 0) ≡ out_of_range
  pub a_record : fen_check initial_board ≡ 0
  pub initial_read : read_fen (ascii "rnbqkbnr/pppppppp/8/8/8/8/PPPPPPPP/RNBQKBNR w KQkq - 0 1") ≡ fen_of initial_board
  pub initial_written : fen_text initial_board ≡ ascii "rnbqkbnr/pppppppp/8/8/8/8/PPPPPPPP/RNBQKBNR w KQkq - 0 1"
