-- `read_entry` of lib.rt meets its contract: r ≡ readEntry full (now s.entry).
use mathlib.Core.Path.{sym, ◌∙◌}
use native.Mathlib.Omega.{arith}
use Rattle.std.proofs.lemmas.Result.{err_from_is_err_and}
use Rattle.roll_text.proofs.Refusals.{refusal_is}
use Rattle.roll_reader.proofs.Laws.{sized}
use Rattle.roll_reader.proofs.Reading.{no_entry, plain_entry, bad_entry, full_entry, no_move_lem, over_move, move_entry}
use Rattle.roll_reader.proofs.read_entry.Goals as goal

pub returns-then-is_code : goal.returns-then-is_code
returns-then-is_code c =
    let at-args = c.args in
    let at-read-number = c.read_number in
    let at-if1 = c.if-code-ne-MOVE_CODE in
    let at-is-code = c.is_code in
    plain_entry at-args.full at-args.s.now _ at-read-number.ensures _ _ c.in_ok-code.ensures.ok_part at-if1.true
    (sym at-is-code.ensures ∙ c.if-is_code.true)

pub returns-then-code-ne-MOVE_CODE : goal.returns-then-code-ne-MOVE_CODE
returns-then-code-ne-MOVE_CODE c =
    let at-args = c.args in
    let at-read-number = c.read_number in
    let at-if1 = c.if-code-ne-MOVE_CODE in
    let at-is-code = c.is_code in
    bad_entry at-args.full at-args.s.now _ at-read-number.ensures _ _ c.in_ok-code.ensures.ok_part at-if1.true (sym at-is-code.ensures ∙ c.if-is_code.false)

pub returns-then-full : goal.returns-then-full
returns-then-full c =
    let at-args = c.args in
    let at-read-number = c.read_number in
    let at-if1 = c.if-code-ne-MOVE_CODE in
    full_entry at-args.full at-args.s.now _ at-read-number.ensures _ _ c.in_ok-code.ensures.ok_part at-if1.false c.if-full.true

pub returns-then-number-gt-LAST_MOVE : goal.returns-then-number-gt-LAST_MOVE
returns-then-number-gt-LAST_MOVE c =
    let at-args = c.args in
    let at-read-number = c.read_number in
    let at-if1 = c.if-code-ne-MOVE_CODE in
    let at-if3 = c.if-full in
    let at_rest = c.rest in
    let at-read-number2 = c.read_number-2 in
    over_move at-args.full at-args.s.now _ at-read-number.ensures _ _ c.in_ok-code.ensures.ok_part at-if1.false at-if3.false _ _ at_rest.ensures
    at-read-number2.ensures _ _ c.in_ok-number.ensures.ok_part c.if-number-gt-LAST_MOVE.true

pub overflow_add-result : goal.overflow_add-result
overflow_add-result c =
    let at-read-number = c.read_number in
    let at-read-number2 = c.read_number-2 in
    let y = sized 5 _ _ _ _ (omega arith) at-read-number.ensures c.in_ok-code.ensures.ok_part in
    let z = sized 5 _ _ _ _ (omega arith) at-read-number2.ensures c.in_ok-number.ensures.ok_part in omega arith

pub returns : goal.returns
returns c =
    let at-args = c.args in
    let at-read-number = c.read_number in
    let at-if1 = c.if-code-ne-MOVE_CODE in
    let at-if3 = c.if-full in
    let at_rest = c.rest in
    let at-read-number2 = c.read_number-2 in
    move_entry at-args.full at-args.s.now _ at-read-number.ensures _ _ c.in_ok-code.ensures.ok_part at-if1.false at-if3.false _ _ at_rest.ensures
    at-read-number2.ensures _ _ c.in_ok-number.ensures.ok_part c.if-number-gt-LAST_MOVE.false

pub returns-in_err-number : goal.returns-in_err-number
returns-in_err-number c =
    let at-args = c.args in
    let at-read-number = c.read_number in
    let at-if1 = c.if-code-ne-MOVE_CODE in
    let at-if3 = c.if-full in
    let at_rest = c.rest in
    let at-read-number2 = c.read_number-2 in
    let p = err_from_is_err_and c.from_residual-in_err-number.result c.from_residual-in_err-number.ensures.1 in
    let k = refusal_is c.in_err-number.ensures.value c.in_err-number.ensures.ok_part in
    rw (p.1, p.2, k) (no_move_lem at-args.full at-args.s.now _ at-read-number.ensures _ _ c.in_ok-code.ensures.ok_part at-if1.false at-if3.false _ _
    at_rest.ensures at-read-number2.ensures c.in_err-number.ensures.ok_part)

pub returns-in_err-code : goal.returns-in_err-code
returns-in_err-code c =
    let a = c.args in
    let at-read-number = c.read_number in
    let p = err_from_is_err_and c.from_residual.result c.from_residual.ensures.1 in
    let k = refusal_is c.in_err-code.ensures.value c.in_err-code.ensures.ok_part in
    rw (p.1, p.2, k) (no_entry a.full a.s.now _ at-read-number.ensures c.in_err-code.ensures.ok_part)
