-- The key of a text's settled record in one call: its answer, and the bytes that it leaves in its room.
-- Assumes nothing.
use Rattle.std.specs.Prelude.{cond, List, ℕ, eqb}
use Rattle.answer.specs.declared.Answer.{Answer}
use Rattle.answer.specs.declared.Placed.{Placed}
use Rattle.answer.specs.Answer.{fault_at}
use Rattle.fen_text.specs.declared.Fen.{Fen}
use Rattle.fen_text.specs.Read.{read_fen}
use Rattle.fen_text.specs.Promises.{fen_writer}
use Rattle.settled_rules.specs.Settled.{settled}

-- a writer's answer as one with an offset, which is 0
abbrev pub unplaced : Answer → Placed
unplaced a = record { number = a.number; value = a.value; offset = 0 }

-- "18, 19, 20 with their offset", as the reader gives them; "then 7 with the length needed", as the writer does
unfoldable pub settled_read : Fen → ℕ → Placed
settled_read f room = cond (eqb f.number 0) (unplaced (fen_writer.answer (settled f.board) room)) (fault_at f.number f.offset)

-- "A refused call writes nothing"
unfoldable pub settled_bytes : Fen → List ℕ → List ℕ
settled_bytes f out = cond (eqb f.number 0) (fen_writer.room (settled f.board) out) out

-- of a text
abbrev pub settled_key : List ℕ → ℕ → Placed
settled_key text room = settled_read (read_fen text) room

abbrev pub settled_room : List ℕ → List ℕ → List ℕ
settled_room text out = settled_bytes (read_fen text) out
