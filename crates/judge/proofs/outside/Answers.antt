use mathlib.Core.Path.{ap, sym, ◌∙◌}
use Prim.Native.Nat.{ℕ, ◌+◌}
use Rattle.judge.proofs.Found.{outside_turn, outside_stop, outside_end}
use Rattle.judge.proofs.outside.Goals as goal

pub returns-then-not-is_listed : goal.returns-then-not-is_listed
returns-then-not-is_listed c =
    let a = c.args in
    let at = c.loop-m in
    let listed = rw c.from-entry.ensures at c.is_listed.ensures in
    at.invariant
    ∙ outside_stop a.list.now a.moves.now at.m-index c.loop-m-test.true (sym listed ∙ c.if-not-is_listed.true)
    ∙ ap (λ (x : ℕ). x + 1) (sym c.from-entry.ensures)

pub loop-m-preserved : goal.loop-m-preserved
loop-m-preserved c =
    let a = c.args in
    let at = c.loop-m in
    let listed = rw c.from-entry.ensures at c.is_listed.ensures in
    at.invariant ∙ outside_turn a.list.now a.moves.now at.m-index c.loop-m-test.true (sym listed ∙ c.if-not-is_listed.false)

pub returns : goal.returns
returns c = c.loop-m.invariant ∙ outside_end c.args.list.now c.args.moves.now c.loop-m.m-index c.loop-m-test.false
