-- `is_list` of lib.rt meets its contract: r ≡ list_fits (now s.entry) entries.
use mathlib.Core.Path.{sym, ap, ◌∙◌}
use Prim.Native.Nat.{◌+◌, ◌*◌}
use Rattle.answer.specs.Numbers.{all_at_most}
use Rattle.position.specs.Layout.{moves_at}
use Rattle.stored_position.proofs.Blocks.{part_to_end, not_moves, by_past}
use Rattle.stored_position.proofs.is_list.Goals as goal

pub returns-else-moves_in_range : goal.returns-else-moves_in_range
returns-else-moves_in_range c =
    c.if-moves_in_range.false ∙ sym (not_moves c.args.s.now c.args.entries (sym c.moves_in_range.ensures ∙ c.if-moves_in_range.false))

pub returns-then-moves_in_range : goal.returns-then-moves_in_range
returns-then-moves_in_range c =
    let s = c.args.s.now in
    let entries = c.args.entries in
    c.all_at_most.ensures
    ∙ ap (all_at_most 0) (part_to_end s (moves_at + 2 * entries) c.told-s)
    ∙ sym (by_past s entries (sym c.moves_in_range.ensures ∙ c.if-moves_in_range.true))
