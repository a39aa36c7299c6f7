use mathlib.Core.Path.{◌≡◌, sym, ap, ap₂, ◌∙◌}
use native.Mathlib.Omega.{arith}
use Prim.Native.Nat.{ℕ, ◌+◌, ◌*◌, zero-le}
use lib.ListN.{get_or}
use Rattle.chess_move.specs.Number.{of_bytes}
use Rattle.action.specs.Layout.{action_size}
use Rattle.actions.specs.CodeCount.{one_if_move}
use Rattle.actions.proofs.Counting.{none_made, count_turn, count_end, one_at_most}
use Rattle.actions.proofs.moves_in.Goals as goal

pub loop-i-init : goal.loop-i-init
loop-i-init c = (zero-le, sym (none_made c.args.acts.now))

pub loop-i-preserved : goal.loop-i-preserved
loop-i-preserved c =
    let acts = c.args.acts.now in
    let i = c.loop-i.i in
    let at = action_size * i in
    let number = of_bytes (get_or acts (at + 2) 0) (get_or acts (at + 3) 0) in
    let read : c.from_le_bytes.result ≡ number = omega (arith, c.from_le_bytes.ensures) in
    let one = c.one_if_move-k.ensures ∙ ap (one_if_move (get_or acts at 0) (get_or acts (at + 1) 0)) read in
    let most = one_at_most (get_or acts at 0) (get_or acts (at + 1) 0) number in
    let more = count_turn acts i (omega (arith, c.loop-i-test.true, c.min-i-end.ensures)) in
    (omega (arith, one, most, c.loop-i.invariant.0), ap₂ (λ (x y : ℕ). x + y) c.loop-i.invariant.1 one ∙ sym more)

pub returns : goal.returns
returns c =
    c.loop-i.invariant.1
    ∙ count_end c.args.acts.now c.args.n c.loop-i.i (omega (arith, c.loop-i-test.false, c.min-i-end.ensures))
    (omega (arith, c.loop-i.auto.i-end, c.min-i-end.ensures))
