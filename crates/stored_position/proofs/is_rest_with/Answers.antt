-- `is_rest_with` of lib.rt meets its contract: r ≡ rest_fits_with (now s.entry) m.
use mathlib.Core.Path.{sym, ◌∙◌}
use borrow.Author.Tests.{ne_eqb}
use Rattle.stored_position.specs.CodeParts.{rest_fits_with}
use Rattle.stored_position.proofs.Known.{rest_of, not_rest}
use Rattle.stored_position.proofs.is_rest_with.Goals as goal

pub returns-in_default : goal.returns-in_default
unfolding rest_fits_with
returns-in_default c = rw (ne_eqb _ _ c.in_default.ensures.cases)

pub returns-then-p-gt1 : goal.returns-then-p-gt1
returns-then-p-gt1 c = sym (not_rest c.in-Some.ensures.cases c.args.m c.if-p-gt1.true)

pub returns-then-m-eq0 : goal.returns-then-m-eq0
returns-then-m-eq0 c = c.is_list_with.ensures ∙ rest_of c.in-Some.ensures.cases c.args.m c.if-p-gt1.false

pub returns-then-entries-lt-SMALL_BLOCK : goal.returns-then-entries-lt-SMALL_BLOCK
returns-then-entries-lt-SMALL_BLOCK c = c.is_short_list_with.ensures ∙ rest_of c.in-Some.ensures.cases c.args.m c.if-p-gt1.false

pub returns-then-entries-lt-LARGE_BLOCK : goal.returns-then-entries-lt-LARGE_BLOCK
returns-then-entries-lt-LARGE_BLOCK c =
    c.is_short_list_with-then-entries-lt-LARGE_BLOCK.ensures ∙ rest_of c.in-Some.ensures.cases c.args.m c.if-p-gt1.false

pub returns : goal.returns
returns c = c.is_list_with-2.ensures ∙ rest_of c.in-Some.ensures.cases c.args.m c.if-p-gt1.false
