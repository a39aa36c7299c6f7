-- The key of a settled record by two calls, the one that settles it and the writer: as many bytes of the room as the writer answers.
-- Assumes nothing.
use Rattle.std.specs.Prelude.{◌≡◌, replicate}
use Rattle.answer.specs.Ascii.{ascii}
use Rattle.fen_text.specs.Read.{read_fen}
use Rattle.settled.specs.Promises.{record_named}

pub record KeysByTwoCalls : Type 0 where
  -- a file that no pawn can use is not in the key, one that a pawn can use is; what stands behind the key in the room is not part of it
  pub cleared : record_named (read_fen (ascii "8/8/8/8/4P3/8/8/8 b - e3")).board (replicate 40 9) ≡ ascii "8/8/8/8/4P3/8/8/8 b - - 0 1"
  pub kept : record_named (read_fen (ascii "8/8/8/8/3pP3/8/8/8 b - e3")).board (replicate 40 9) ≡ ascii "8/8/8/8/3pP3/8/8/8 b - e3 0 1"
