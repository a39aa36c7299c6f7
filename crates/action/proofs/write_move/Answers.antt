-- `write_move` of lib.rt meets its contract: r ≡ write_answer (number_answer m).number (fields 1 0 (number_answer m).value) (length (now out.entry)); now
-- out.exit ≡ write_bytes (number_answer m).number (fields 1 0 (number_answer m).value) (now out.entry).
use Rattle.answer.specs.declared.Answer.{Answer}
use mathlib.Core.Path.{◌≡◌, ◌∙◌, ap}
use native.Mathlib.Omega.{arith}
use Rattle.answer.proofs.Writes.{write_refused}
use Rattle.chess_move.specs.Number.{number_answer}
use Rattle.action.specs.Layout.{fields}
use Rattle.action.proofs.Rules.{number_five}
use Rattle.action.proofs.write_move.Goals as goal

pub returns-then-n-ne-ACCEPTED : goal.returns-then-n-ne-ACCEPTED
returns-then-n-ne-ACCEPTED c =
    let a = c.args in
    let at-number = c.number-n in
    let k : (number_answer a.m).number ≡ 5 = number_five a.m (λ e. c.if-n-ne-ACCEPTED.true (ap (λ (x : Answer). x.number) at-number.ensures ∙ e)) in
    let w = write_refused 5 (fields 1 0 (number_answer a.m).value) a.out.now (λ e. omega arith) in
    record { answer = rw k (c.refused.ensures ∙ w.answer); bytes = rw k (w.bytes) }
