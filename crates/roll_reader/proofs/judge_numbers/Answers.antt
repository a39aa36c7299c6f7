use Rattle.std.specs.Prelude.{Err}
use Rattle.std.proofs.lemmas.Result.{err_from_is_err_and}
use Rattle.roll_text.proofs.Refusals.{refusal_is}
use Rattle.roll_text.specs.Roll.{largest_numbers, read_numbers}
use Rattle.roll_reader.proofs.Fronts.{front_told, number_turn, number_over, number_bad, numbers_end}
use Rattle.roll_reader.proofs.judge_numbers.Goals as goal

pub returns-in_err-n : goal.returns-in_err-n
returns-in_err-n c =
    let p = err_from_is_err_and c.from_residual.result c.from_residual.ensures.1 in
    let k = refusal_is c.in_err-n.ensures.value c.in_err-n.ensures.ok_part in
    let t = front_told (Err _) (read_numbers largest_numbers c.args.s.now) (number_bad c.loop-i.i c.args.s.now _ _ c.loop-i-test.true c.rest.ensures
    c.read_number.ensures _ c.in_err-n.ensures.ok_part c.loop-i.invariant) in
    rw (p.1, p.2, k) (record { check = t.0; number = t.1 })

pub returns-then-largest_at-n : goal.returns-then-largest_at-n
returns-then-largest_at-n c =
    let t = front_told _ (read_numbers largest_numbers c.args.s.now) (number_over c.loop-i.i c.args.s.now _ _ c.loop-i-test.true c.rest.ensures
    c.read_number.ensures _ _ _ _ c.largest_at.ensures c.in_ok-n.ensures.ok_part c.if-largest_at-n.true c.loop-i.invariant) in
    record { check = t.0; number = t.1 }

pub loop-i-preserved : goal.loop-i-preserved
loop-i-preserved c =
    number_turn c.loop-i.i c.args.s.now _ _ c.loop-i-test.true c.rest.ensures c.read_number.ensures _ _ _ _ c.largest_at.ensures
    c.in_ok-n.ensures.ok_part c.if-largest_at-n.false c.loop-i.invariant

pub returns : goal.returns
returns c =
    let t = front_told _ (read_numbers largest_numbers c.args.s.now) (numbers_end c.loop-i.i _ c.args.s.now c.loop-i-test.false c.loop-i.invariant) in
    record { check = t.0; number = t.1 }
