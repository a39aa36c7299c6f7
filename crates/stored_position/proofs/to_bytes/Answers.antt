-- `to_bytes` of lib.rt meets its contract: r ≡ write_answer (position_check (position_given b in_check (now list.entry))) (position_bytes (position_given b
-- in_check (now list.entry))) (length (now out.entry)); now out.exit ≡ write_bytes (position_check (position_given b in_check (now list.entry)))
-- (position_bytes (position_given b in_check (now list.entry))) (now out.entry).
use mathlib.Core.Path.{sym, ◌∙◌}
use Rattle.stored_position.specs.Bytes.{position_given}
use Rattle.stored_position.proofs.Checks.{position_fits}
use Rattle.stored_position.proofs.Writes.{way_refused, way_short, way_written}
use Rattle.stored_position.proofs.to_bytes.Goals as goal

pub returns-then-number-ne-ACCEPTED : goal.returns-then-number-ne-ACCEPTED
returns-then-number-ne-ACCEPTED c =
    let a = c.args in
    let at-check = c.check-number in
    let w = way_refused (position_given a.b a.in_check a.list.now) a.out.now at-check.result at-check.ensures c.if-number-ne-ACCEPTED.true in
    record { answer = c.refused.ensures ∙ w.answer; bytes = w.bytes }

pub returns-then-out-lt-POSITION_SIZE : goal.returns-then-out-lt-POSITION_SIZE
returns-then-out-lt-POSITION_SIZE c =
    let a = c.args in
    let at-check = c.check-number in
    let w = way_short (position_given a.b a.in_check a.list.now) a.out.now at-check.result at-check.ensures
    c.if-number-ne-ACCEPTED.false c.if-out-lt-POSITION_SIZE.true in
    record { answer = w.answer; bytes = w.bytes }

pub write_position-requires : goal.write_position-requires
write_position-requires c =
    let a = c.args in
    let at-check = c.check-number in
    let at-if1 = c.if-number-ne-ACCEPTED in
    (c.if-out-lt-POSITION_SIZE.false, (position_fits (position_given a.b a.in_check a.list.now) (sym at-check.ensures ∙ at-if1.false)).short)

pub returns : goal.returns
returns c =
    let a = c.args in
    let at-check = c.check-number in
    let at-if1 = c.if-number-ne-ACCEPTED in
    let at-if2 = c.if-out-lt-POSITION_SIZE in
    let at-write-position = c.write_position in
    let w = way_written (position_given a.b a.in_check a.list.now) a.out.now at-check.result at-check.ensures
    at-if1.false at-if2.false in
    record { answer = c.accepted.ensures ∙ w.answer; bytes = at-write-position.ensures ∙ w.bytes }
