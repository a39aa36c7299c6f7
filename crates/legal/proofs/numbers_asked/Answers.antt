-- `numbers_asked` of lib.rt meets its contract: r ≤ 28672; legal_from b r 0 ≡ legal_moves b.
use mathlib.Core.Path.{sym, ◌∙◌}
use Rattle.legal.proofs.Promoting.{without_promotions, with_promotions}
use Rattle.legal.proofs.numbers_asked.Goals as goal

pub returns-then-may_promote-clause-all : goal.returns-then-may_promote-clause-all
returns-then-may_promote-clause-all c = with_promotions c.args.p.now.board

pub returns-clause-all : goal.returns-clause-all
returns-clause-all c = without_promotions c.args.p.now.board c.args.p.now.good (sym (rw c.side.ensures at c.may_promote.ensures) ∙ c.if-may_promote.false)
