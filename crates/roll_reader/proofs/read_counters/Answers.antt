-- `read_counters` of lib.rt meets its contract: r ≡ read_counters counted (now s.entry).
use native.Mathlib.Omega.{arith}
use Rattle.std.proofs.lemmas.Result.{err_from_is_err_and}
use Rattle.roll_text.proofs.Refusals.{refusal_is}
use Rattle.roll_reader.proofs.Laws.{sized}
use Rattle.roll_reader.proofs.Answers.{old_counters, no_half, over_half, no_full, zero_full, over_full, both_counters}
use Rattle.roll_reader.proofs.read_counters.Goals as goal

pub returns-then-not-counted : goal.returns-then-not-counted
returns-then-not-counted c =
    let a = c.args in
    old_counters a.counted a.s.now c.if-not-counted.true

pub returns-then-half-gt-LAST_COUNT : goal.returns-then-half-gt-LAST_COUNT
returns-then-half-gt-LAST_COUNT c =
    let a = c.args in
    let at-if1 = c.if-not-counted in
    let at-read-number = c.read_number in
    over_half a.counted a.s.now _ at-if1.false at-read-number.ensures _ _ c.in_ok-half.ensures.ok_part c.if-half-gt-LAST_COUNT.true

pub returns-then-full-eq0 : goal.returns-then-full-eq0
returns-then-full-eq0 c =
    let a = c.args in
    let at-if1 = c.if-not-counted in
    let at-read-number = c.read_number in
    let at-if2 = c.if-half-gt-LAST_COUNT in
    let at_rest = c.rest in
    let at-read-number2 = c.read_number-2 in
    zero_full a.counted a.s.now _ at-if1.false at-read-number.ensures _ _ c.in_ok-half.ensures.ok_part at-if2.false _ _
    at_rest.ensures at-read-number2.ensures _ _ c.in_ok-full.ensures.ok_part c.if-full-eq0.true

pub returns-then-full-gt-LAST_COUNT : goal.returns-then-full-gt-LAST_COUNT
returns-then-full-gt-LAST_COUNT c =
    let a = c.args in
    let at-if1 = c.if-not-counted in
    let at-read-number = c.read_number in
    let at-if2 = c.if-half-gt-LAST_COUNT in
    let at_rest = c.rest in
    let at-read-number2 = c.read_number-2 in
    let at-if3 = c.if-full-eq0 in
    over_full a.counted a.s.now _ at-if1.false at-read-number.ensures _ _ c.in_ok-half.ensures.ok_part at-if2.false _ _
    at_rest.ensures at-read-number2.ensures _ _ c.in_ok-full.ensures.ok_part at-if3.false c.if-full-gt-LAST_COUNT.true

pub overflow_add-result : goal.overflow_add-result
overflow_add-result c =
    let at-read-number = c.read_number in
    let at-read-number2 = c.read_number-2 in
    let y = sized 5 _ _ _ _ (omega arith) at-read-number.ensures c.in_ok-half.ensures.ok_part in
    let z = sized 5 _ _ _ _ (omega arith) at-read-number2.ensures c.in_ok-full.ensures.ok_part in
    omega arith

pub returns : goal.returns
returns c =
    let a = c.args in
    let at-if1 = c.if-not-counted in
    let at-read-number = c.read_number in
    let at-if2 = c.if-half-gt-LAST_COUNT in
    let at_rest = c.rest in
    let at-read-number2 = c.read_number-2 in
    let at-if3 = c.if-full-eq0 in
    both_counters a.counted a.s.now _ at-if1.false at-read-number.ensures _ _ c.in_ok-half.ensures.ok_part at-if2.false _ _
    at_rest.ensures at-read-number2.ensures _ _ c.in_ok-full.ensures.ok_part at-if3.false c.if-full-gt-LAST_COUNT.false

pub returns-in_err-full : goal.returns-in_err-full
returns-in_err-full c =
    let a = c.args in
    let at-if1 = c.if-not-counted in
    let at-read-number = c.read_number in
    let at-if2 = c.if-half-gt-LAST_COUNT in
    let at_rest = c.rest in
    let at-read-number2 = c.read_number-2 in
    let p = err_from_is_err_and c.from_residual-in_err-full.result c.from_residual-in_err-full.ensures.1 in
    let k = refusal_is c.in_err-full.ensures.value c.in_err-full.ensures.ok_part in
    rw (p.1, p.2, k) (no_full a.counted a.s.now _ at-if1.false at-read-number.ensures _ _ c.in_ok-half.ensures.ok_part at-if2.false _ _
    at_rest.ensures at-read-number2.ensures c.in_err-full.ensures.ok_part)

pub returns-in_err-half : goal.returns-in_err-half
returns-in_err-half c =
    let a = c.args in
    let at-if1 = c.if-not-counted in
    let at-read-number = c.read_number in
    let p = err_from_is_err_and c.from_residual.result c.from_residual.ensures.1 in
    let k = refusal_is c.in_err-half.ensures.value c.in_err-half.ensures.ok_part in
    rw (p.1, p.2, k) (no_half a.counted a.s.now _ at-if1.false at-read-number.ensures c.in_err-half.ensures.ok_part)
