-- `move_may_stand` of lib.rt meets its contract: r ≡ move_may_stand (now ps.entry) m k x.
use mathlib.Core.Path.{ap₂, ◌∙◌}
use mathlib.Core.List.{List}
use Prim.Native.Nat.{ℕ}
use native.Mathlib.Numerals.{add-one}
use borrow.Author.Tests.{lt-ltb}
use Rattle.good_log.specs.CodeSteps.{move_leads}
use Rattle.good_log.proofs.move_may_stand.Goals as goal

pub returns-then-k-m : goal.returns-then-k-m
returns-then-k-m c =
    let a = c.args in
    rw (lt-ltb a.k a.m c.if-k-m.true)
    (c.move_leads.ensures ∙ ap₂ (λ (p q : List ℕ). move_leads p a.x q) c.at.ensures (rw (add-one a.k) at c.at-then-k-m.ensures))
