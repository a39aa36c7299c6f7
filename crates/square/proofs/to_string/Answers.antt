-- `to_string` of lib.rt meets its contract: r ≡ write_answer (square_check square) (square_text square) (length (now out.entry)); now out.exit ≡
-- write_bytes (square_check square) (square_text square) (now out.entry).
use borrow.Author.Tests.{le-ltb}
use mathlib.Core.Path.{◌≡◌, ◌∙◌}
use native.Mathlib.Omega.{arith}
use Rattle.square.specs.Square.{square_text, square_check}
use Rattle.answer.proofs.Writes.{write_refused}
use Rattle.square.proofs.to_string.Goals as goal

pub returns-then-square-ge64 : goal.returns-then-square-ge64
returns-then-square-ge64 c =
    let a = c.args in
    let h : square_check a.square ≡ 5 = simp (le-ltb _ _ c.if-square-ge64.true) in
    let w = write_refused 5 (square_text a.square) a.out.now (λ e. omega arith) in
    record { answer = rw h (c.refused.ensures ∙ w.answer); bytes = rw h (w.bytes) }
