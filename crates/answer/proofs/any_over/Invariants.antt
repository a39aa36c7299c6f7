-- `any_over` of lib.rt meets its contract: r ≡ list_any (λ x. partial_gt T.partial_cmp x (now most.entry)) (now s.entry).
use mathlib.Core.Path.{◌≡◌}
use lib.ListN.{take}
use Rattle.std.specs.List.{list_any}
use Rattle.std.specs.Ordering.{partial_gt}
use Rattle.answer.proofs.any_over.Given as goal

abbrev pub invariant-loop-x : goal.invariant-loop-x
invariant-loop-x g l = l.over ≡ list_any (λ x. partial_gt g.T.PartialOrd.partial_cmp x l.most) (take l.x-index l.s)
