-- `all_at_most` of lib.rt meets its contract: r ≡ all_at_most most (now s.entry).
use mathlib.Core.Path.{◌∙◌, ap}
use mathlib.Core.Bool.{not}
use Rattle.answer.proofs.Over.{none_over}
use Rattle.answer.proofs.all_at_most.Goals as goal

pub returns : goal.returns
returns c = ap not c.any_over.ensures ∙ none_over c.args.most c.args.s.now
