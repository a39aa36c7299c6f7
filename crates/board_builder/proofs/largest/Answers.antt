use mathlib.Core.Path.{◌∙◌, sym, ap}
use Prim.Native.Nat.{ℕ, ◌+◌, max}
use lib.ListN.{drop}
use Rattle.answer.specs.Numbers.{largest}
use Rattle.answer.proofs.Maxima.{largest_turn, largest_end}
use Rattle.board_builder.proofs.largest.Goals as goal

pub loop-x-preserved : goal.loop-x-preserved
loop-x-preserved c =
    let s = c.args.s.now in
    let at = c.loop-x in
    ap (λ (m : ℕ). max m (largest (drop (at.x-index + 1) s))) c.max-most.ensures
    ∙ sym (largest_turn s at.most at.x-index c.loop-x-test.true)
    ∙ at.invariant

pub returns : goal.returns
returns c =
    let at = c.loop-x in
    sym (largest_end c.args.s.now at.most at.x-index c.loop-x-test.false) ∙ at.invariant
