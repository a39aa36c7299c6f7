use native.Mathlib.Omega.{arith}
use mathlib.Core.Path.{◌≡◌, ap, sym, ◌∙◌}
use Prim.Native.Nat.{ℕ, ◌+◌, ◌-◌}
use Rattle.move_laws.specs.Apart.{empty_up_to}
use Rattle.legal.proofs.Lines.{up_turn, up_stop, up_met, up_end}
use Rattle.legal.proofs.empty_up_to.Goals as goal

pub returns-then-stop-at : goal.returns-then-stop-at
returns-then-stop-at c =
    let a = c.args in
    let at = c.loop in
    sym (at.invariant.left ∙ up_stop a.squares.now a.stop a.step (6 - at.counter) at.at c.if-stop-at.true)

pub returns-then-squares-at-ne0 : goal.returns-then-squares-at-ne0
returns-then-squares-at-ne0 c =
    let a = c.args in
    let at = c.loop in
    sym (at.invariant.left ∙ up_met a.squares.now a.stop a.step (6 - at.counter) at.at (omega arith) c.if-stop-at.false c.if-squares-at-ne0.true)

pub loop-preserved : goal.loop-preserved
loop-preserved c =
    let a = c.args in
    let at = c.loop in
    let z : 6 - at.counter - 1 ≡ 6 - (at.counter + 1) = omega arith in record {
      under = omega arith;
      left = at.invariant.left ∙ up_turn a.squares.now a.stop a.step (6 - at.counter) at.at (omega arith) c.if-stop-at.false c.if-squares-at-ne0.false
          ∙ ap (λ (n : ℕ). empty_up_to a.squares.now a.stop a.step n (at.at + a.step)) z;
    }

pub returns : goal.returns
returns c =
    let a = c.args in
    let at = c.loop in
    sym (at.invariant.left ∙ up_end a.squares.now a.stop a.step (6 - at.counter) at.at (omega arith))
