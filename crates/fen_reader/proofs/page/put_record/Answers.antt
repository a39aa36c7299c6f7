-- `put_record` of page.rt meets its contract: now records.exit ≡ written (now records.entry) at (numbers board).
use mathlib.Core.Path.{refl}
use Rattle.answer.proofs.Puts.{put_written}
use Rattle.board_builder.specs.BoardBuilder.{numbers}
use Rattle.fen_reader.proofs.page.put_record.Goals as goal

pub returns : goal.returns
returns c =
    let a = c.args in
    let at_pre = c.requires in
    let at-to-bytes = c.to_bytes in
    put_written a.at 0 a.records.now (numbers a.board) at-to-bytes.new.out refl (at_pre) at-to-bytes.ensures.bytes
