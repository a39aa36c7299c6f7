-- `is_good` of lib.rt meets its contract: r ≡ is_good limits (now acts.entry) (now ps.entry) n m.
use mathlib.Core.Path.{◌≡◌}
use mathlib.Core.Bool.{true}
use Rattle.answer.specs.Parts.{item}
use Rattle.position.specs.Layout.{position_size}
use Rattle.stored_position.specs.CodeParts.{record_fits}
use Rattle.good_log.proofs.Pass.{Reaching}
use Rattle.good_log.proofs.is_good.Given as goal

abbrev pub invariant-loop-i : goal.invariant-loop-i
invariant-loop-i l = Reaching l.acts l.ps l.n l.m l.i l.k × (record_fits (item position_size l.ps l.k) ≡ true)
