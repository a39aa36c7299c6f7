-- Moves of document 02, order 9, as positions and texts: a FEN, a move as players write it, and the key of the record after it. And what the call answers to
-- what it refuses.
-- Assumes nothing.
use Rattle.std.specs.Prelude.{ℕ, ◌≡◌, replicate, set}
use Prim.Native.String.{String}
use Rattle.answer.specs.Ascii.{ascii}
use Rattle.board_builder.specs.declared.BoardBuilder.{BoardBuilder}
use Rattle.board_builder.specs.declared.Stepped.{Stepped}
use Rattle.board_builder.specs.BoardBuilder.{board, with_counters}
use Rattle.fen_text.specs.Read.{read_fen}
use Rattle.fen_text.specs.Write.{fen_text}
use Rattle.chess_move.specs.Coordinate.{read_move}
use Rattle.move_rules.specs.After.{after_answer}

-- the record of a FEN, and what the call answers to it and a move's text
abbrev pub position_of_fen : String → BoardBuilder
position_of_fen fen = (read_fen (ascii fen)).board

abbrev pub after_text : String → String → Stepped
after_text fen move = after_answer (position_of_fen fen) (read_move (ascii move)).value

-- the move is taken, and the record after it is written so
abbrev pub After : String → String → String → Type 0
After fen move key = ((after_text fen move).number ≡ 0) × (fen_text (after_text fen move).board ≡ ascii key)

-- a record and a move that are refused: the number, and the record handed back
abbrev pub RefusedAfter : BoardBuilder → ℕ → ℕ → Type 0
RefusedAfter b m number = ((after_answer b m).number ≡ number) × ((after_answer b m).board ≡ b)

pub record MovesPlayed : Type 0 where
  -- "piece moved or promoted, in its colour": a black pawn, a white king and a black king with a promotion, and nothing
  pub black_promotes : After "8/8/8/8/8/8/p7/8 b - -" "a2a1q" "8/8/8/8/8/8/8/q7 w - - 0 1"
  pub white_king_promoted : After "K7 w - -" "a8b8n" "1N6/8/8/8/8/8/8/8 b - - 0 1"
  pub nothing_promoted : After " w - -" "a1a2q" "8/8/8/8/8/8/8/8 b - - 0 1"
  -- "rook in castling .. a king going two files along its rank": with the rook on h1; not to another rank
  pub castles_short : After "8/8/8/8/8/8/8/4K2R w KQkq -" "e1g1" "8/8/8/8/8/8/8/5RK1 b kq - 0 1"
  pub castles_long : After "r3k3 b KQkq -" "e8c8" "2kr4/8/8/8/8/8/8/8 w KQ - 0 1"
  pub other_rank : After "8/8/8/8/8/8/8/4K2R w - -" "e1g2" "8/8/8/8/8/8/6K1/7R b - - 0 1"
  -- "en passant is a pawn changing files": a knight that changes files to an empty square takes nothing in passing
  pub knight_takes_none : After "8/8/8/8/8/8/8/1NB5 w - -" "b1c3" "8/8/8/8/8/2N5/8/2B5 b - - 0 1"
  -- "rights of both sides removed by source and by destination square": a rook of h8 takes that of h1
  pub rook_takes_rook : After "7r/8/8/8/8/8/8/7R b KQkq -" "h8h1" "8/8/8/8/8/8/8/7r w Qq - 0 1"
  -- "en passant file set only when a double pawn step .. arrives beside an enemy pawn": by black, beside a white pawn, and not beside a knight or a black one
  pub black_double : After "8/4p3/8/3P4/8/8/8/8 b - -" "e7e5" "8/8/8/3Pp3/8/8/8/8 w - e6 0 1"
  pub black_beside_own : After "8/4p3/8/3p4/8/8/8/8 b - -" "e7e5" "8/8/8/3pp3/8/8/8/8 w - - 0 1"
  pub black_beside_knight : After "8/4p3/8/3N4/8/8/8/8 b - -" "e7e5" "8/8/8/3Np3/8/8/8/8 w - - 0 1"
  -- beside is on the same rank: a5 is not beside h4, h4 is beside g4
  pub far_edge : After "8/8/8/p7/8/8/7P/8 w - -" "h2h4" "8/8/8/p7/7P/8/8/8 b - - 0 1"
  pub beside_h : After "8/8/8/8/7p/8/6P1/8 w - -" "g2g4" "8/8/8/8/6Pp/8/8/8 b - g3 0 1"
  -- two ranks on one file: not on two
  pub two_files : After "8/8/8/8/2p5/8/4P3/8 w - -" "e2d4" "8/8/8/8/2pP4/8/8/8 b - - 0 1"
  -- "5 for the record, then 6 for the move; a refused call hands its record back"; 28,671 is the last move there is
  pub five_before_six : RefusedAfter (board (set (replicate 64 0) 0 1) 2 0 0 0) 28672 5
  pub six : RefusedAfter (board (set (replicate 64 0) 0 1) 1 2 3 4) 28672 6
  pub last_move_fact : after_answer (board (set (replicate 64 0) 63 1) 1 2 3 4) 28671 ≡
      record { number = 0; board = with_counters (board (set (replicate 64 0) 63 6) 0 2 2 0) 0 2 }
