-- `write` of lib.rt meets its contract: r ≡ write_answer (fen_check board) (text_with board half full) (length (now out.entry)); and so for the bytes.
use mathlib.Core.Path.{◌≡◌, sym, ◌∙◌}
use mathlib.Core.Bool.{false}
use native.Mathlib.Omega.{arith}
use Rattle.answer.proofs.Writes.{write_refused}
use Rattle.board_builder.specs.BoardBuilder.{in_range}
use Rattle.fen_text.specs.Write.{fen_check}
use Rattle.fen_writer.specs.CodeTexts.{text_with}
use Rattle.fen_writer.proofs.write.Goals as goal

pub returns-then-not-in_range : goal.returns-then-not-in_range
returns-then-not-in_range c =
    let a = c.args in
    let test = c.in_range in
    let bad : in_range a.board ≡ false = sym test.ensures ∙ c.if-not-in_range.true in
    let k : fen_check a.board ≡ 5 = simp bad in
    let w = write_refused 5 (text_with a.board a.half a.full) a.out.now (λ e. omega arith) in
    record { answer = rw k (c.refused.ensures ∙ w.answer); bytes = rw k (w.bytes) }
