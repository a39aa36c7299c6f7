-- `promotion_kind` of text.rt meets its contract: r ≡ promotion_kind b.
use Rattle.std.proofs.Common.{rules}
use Rattle.san_text.specs.Text.{promotion_kind}
use Rattle.san_reader.proofs.text.promotion_kind.Goals as goal

pub returns-in-78 : goal.returns-in-78
unfolding promotion_kind
returns-in-78 c = simp c.in-78.is

pub returns-in-66 : goal.returns-in-66
unfolding promotion_kind
returns-in-66 c = simp c.in-66.is

pub returns-in-82 : goal.returns-in-82
unfolding promotion_kind
returns-in-82 c = simp c.in-82.is

pub returns-in-81 : goal.returns-in-81
unfolding promotion_kind
returns-in-81 c = simp c.in-81.is

pub returns-in_default : goal.returns-in_default
unfolding promotion_kind
returns-in_default c = search rules
