-- `write_full` of lib.rt meets its contract: r ≡ write_answer (fen_check board) (full_text board) (length (now out.entry)); now out.exit ≡ write_bytes
-- (fen_check board) (full_text board) (now out.entry).
use Rattle.board_builder.proofs.Ranges.{in_range_lem}
use Rattle.fen_text.specs.Write.{full_text, full_tail}
use Rattle.fen_writer.proofs.write_full.Goals as goal

pub write-requires : goal.write-requires
write-requires c = λ good. let r = (in_range_lem c.args.board good).counters in (r.half_most, r.full_most)

pub returns : goal.returns
unfolding full_text full_tail
returns c = record { answer = c.write.ensures.answer; bytes = c.write.ensures.bytes }
