-- `is_position` of lib.rt meets its contract: r ≡ is_position (now s.entry).
use mathlib.Core.Path.{sym, ◌∙◌}
use Rattle.stored_position.proofs.Known.{other_size, not_record, not_check, by_parts}
use Rattle.stored_position.proofs.is_position.Goals as goal

pub returns-in_default : goal.returns-in_default
returns-in_default c = sym (other_size c.args.s.now c.in_default.ensures.cases)

pub returns-then-not-has_record : goal.returns-then-not-has_record
returns-then-not-has_record c = sym (not_record c.in-Some.ensures.cases (sym c.has_record.ensures ∙ c.if-not-has_record.true))

pub returns-then-p-gt1 : goal.returns-then-p-gt1
returns-then-p-gt1 c = sym (not_check c.in-Some.ensures.cases (sym c.has_record.ensures ∙ c.if-not-has_record.false) c.if-p-gt1.true)

pub returns : goal.returns
returns c =
    c.is_list.ensures
    ∙ sym (by_parts c.in-Some.ensures.cases (λ i. (c.shared_slice_known-1.given i).fits) (sym c.has_record.ensures ∙ c.if-not-has_record.false)
    c.if-p-gt1.false)
