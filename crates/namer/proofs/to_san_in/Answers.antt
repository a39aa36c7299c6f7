-- `to_san_in` of lib.rt meets its contract: r ≡ answerIn standard board (now moves.entry) n (length (now out.entry)); now out.exit ≡ bytes_in
-- standard board (now moves.entry) n (now out.entry).
use mathlib.Core.Path.{sym, ◌∙◌}
use native.Mathlib.Omega.{arith}
use Rattle.answer.proofs.Writes.{write_refused}
use Rattle.move_list.proofs.Listed.{listed_in_range}
use Rattle.san_text.specs.Name.{name_text}
use Rattle.san_text.specs.Forms.{form_of}
use Rattle.namer.proofs.Naming.{name_with, check_made, check_refuses, check_ready, check_name, check_passed, name_text_fact}
use Rattle.namer.proofs.to_san_in.Goals as goal

pub returns-then-check-ne-ACCEPTED : goal.returns-then-check-ne-ACCEPTED
returns-then-check-ne-ACCEPTED c =
    let at-args = c.args in
    let at-in-range = c.in_range in
    let at-in-range2 = c.in_range-2 in
    let at-is-listed = c.is_listed in
    let at-first-check = c.first_check-check in
    let at-if1 = c.if-check-ne-ACCEPTED in
    let made = check_made at-args.standard at-args.board at-args.moves.now at-args.n at-in-range.ensures at-in-range2.ensures
    at-is-listed.ensures at-first-check.ensures in
    let w =
    write_refused at-first-check.result (name_text (form_of at-args.standard) at-args.board at-args.moves.now at-args.n) at-args.out.now
    at-if1.true in
    record {
      answer = rw
          (check_refuses at-args.standard at-args.board at-args.moves.now at-args.n (λ e. at-if1.true (made ∙ e)), ← made)
          (c.refused.ensures ∙ w.answer);
      bytes = rw
          (check_refuses at-args.standard at-args.board at-args.moves.now at-args.n (λ e. at-if1.true (made ∙ e)), ← made)
          (w.bytes);
    }

pub overflow_cast-request : goal.overflow_cast-request
overflow_cast-request c =
    let a = c.args in
    let made = check_made a.standard a.board a.moves.now a.n c.in_range.ensures c.in_range-2.ensures c.is_listed.ensures c.first_check-check.ensures in
    let ready = check_ready a.standard a.board a.moves.now a.n (sym made ∙ c.if-check-ne-ACCEPTED.false) in
    omega (arith, listed_in_range a.n a.moves.now ready.list_in_range_fact ready.move_listed)

pub invariant_of-request : goal.invariant_of-request
invariant_of-request c =
    let a = c.args in
    let made = check_made a.standard a.board a.moves.now a.n c.in_range.ensures c.in_range-2.ensures c.is_listed.ensures c.first_check-check.ensures in
    let ready = check_ready a.standard a.board a.moves.now a.n (sym made ∙ c.if-check-ne-ACCEPTED.false) in
    record { moves_value = ready.list_in_range_fact }

pub returns-in_default : goal.returns-in_default
returns-in_default c =
    let a = c.args in
    let made = check_made a.standard a.board a.moves.now a.n c.in_range.ensures c.in_range-2.ensures c.is_listed.ensures c.first_check-check.ensures in
    let ready = check_ready a.standard a.board a.moves.now a.n (sym made ∙ c.if-check-ne-ACCEPTED.false) in
    let none_found = sym (name_with a.standard a.board a.moves.now a.n) ∙ c.in_default.ensures in
    let w = write_refused 8 (name_text (form_of a.standard) a.board a.moves.now a.n) a.out.now (λ e. omega arith) in
    record {
      answer = rw (check_name a.standard a.board a.moves.now a.n ready none_found) (c.refused-in_default.ensures ∙ w.answer);
      bytes = rw (check_name a.standard a.board a.moves.now a.n ready none_found) (w.bytes);
    }

pub returns : goal.returns
returns c =
    let a = c.args in
    let made = check_made a.standard a.board a.moves.now a.n c.in_range.ensures c.in_range-2.ensures c.is_listed.ensures c.first_check-check.ensures in
    let ready = check_ready a.standard a.board a.moves.now a.n (sym made ∙ c.if-check-ne-ACCEPTED.false) in
    let name = sym (name_with a.standard a.board a.moves.now a.n) ∙ c.in-Some.ensures.0 in
    record {
      answer = rw (check_passed a.standard a.board a.moves.now a.n ready name, name_text_fact a.standard a.board a.moves.now a.n name)
          (c.write_text.ensures.answer);
      bytes = rw (check_passed a.standard a.board a.moves.now a.n ready name, name_text_fact a.standard a.board a.moves.now a.n name)
          (c.write_text.ensures.bytes);
    }
