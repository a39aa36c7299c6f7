-- `write_fen` of lib.rt meets its contract: r ≡ write_answer (fen_check board) (fen_text board) (length (now out.entry)); now out.exit ≡ write_bytes
-- (fen_check board) (fen_text board) (now out.entry).
use Rattle.fen_writer.proofs.Counters.{fen_text_with}
use Rattle.fen_writer.proofs.write_fen.Goals as goal

pub returns : goal.returns
returns c = rw (fen_text_with c.args.board) (record { answer = c.write.ensures.answer; bytes = c.write.ensures.bytes })
