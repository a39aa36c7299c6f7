use mathlib.Core.Path.{sym, ap, ◌∙◌}
use mathlib.Core.Bool.{◌&&◌}
use Prim.Native.Nat.{ℕ, ◌+◌, ◌-◌}
use lib.Bits.{bit_or}
use lib.Dec.{eqb}
use Rattle.answer.specs.Numbers.{all_at_most}
use Rattle.answer.proofs.Bounds.{gather_end}
use Rattle.chess_move.specs.Number.{last_move}
use Rattle.stored_position.proofs.Listing.{moves_left}
use Rattle.stored_position.proofs.Blocks.{range_turn, range_end}
use Rattle.stored_position.proofs.moves_in_range.Goals as goal

pub loop-i-preserved : goal.loop-i-preserved
loop-i-preserved c =
    let s = c.args.s.now in
    let entries = c.args.entries in
    let i = c.loop-i.i in
    let above = c.loop-i.above in
    let left = all_at_most last_move (moves_left s entries (i + 1)) in
    ap (λ (x : ℕ). eqb (bit_or above x) 0 && left) (c.over-above.ensures ∙ ap (λ (x : ℕ). x - last_move) c.entry.ensures)
    ∙ range_turn last_move s entries above i c.loop-i-test.true
    ∙ c.loop-i.invariant

pub returns : goal.returns
returns c =
    let s = c.args.s.now in
    let entries = c.args.entries in
    let i = c.loop-i.i in
    sym (gather_end c.loop-i.above (all_at_most last_move (moves_left s entries i)) (range_end last_move s entries i c.loop-i-test.false))
    ∙ c.loop-i.invariant
