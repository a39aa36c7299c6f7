use native.Mathlib.Omega.{arith}
use mathlib.Core.Path.{ap, sym, ◌∙◌}
use Prim.Native.Nat.{ℕ, ◌+◌, ◌-◌}
use lib.ListN.{length, drop, length-drop}
use lib.Seq.{take_all}
use Rattle.judge.proofs.Found.{twice_turn, twice_stop, twice_end}
use Rattle.judge.proofs.twice.Goals as goal

pub returns-then-is_listed : goal.returns-then-is_listed
returns-then-is_listed c =
    let l = c.args.list.now in
    let at = c.loop-i in
    let listed = rw (c.from-entry.ensures, take_all (length l - (at.i + 1)) (drop (at.i + 1) l) (simp length-drop (omega arith))) at c.is_listed.ensures in
    at.invariant ∙ twice_stop l at.i c.loop-i-test.true (sym listed ∙ c.if-is_listed.true) ∙ ap (λ (x : ℕ). x + 1) (sym c.from-entry.ensures)

pub loop-i-preserved : goal.loop-i-preserved
loop-i-preserved c =
    let l = c.args.list.now in
    let at = c.loop-i in
    let listed = rw (c.from-entry.ensures, take_all (length l - (at.i + 1)) (drop (at.i + 1) l) (simp length-drop (omega arith))) at c.is_listed.ensures in
    at.invariant ∙ twice_turn l at.i c.loop-i-test.true (sym listed ∙ c.if-is_listed.false)

pub returns : goal.returns
returns c = c.loop-i.invariant ∙ twice_end c.args.list.now c.loop-i.i c.loop-i-test.false
