-- `is_list_with` of lib.rt meets its contract: r ≡ list_fits_with (now s.entry) entries m.
use mathlib.Core.Path.{sym, ◌∙◌}
use Rattle.stored_position.proofs.Blocks.{not_list, by_among}
use Rattle.stored_position.proofs.is_list_with.Goals as goal

pub returns-else-is_list : goal.returns-else-is_list
returns-else-is_list c =
    c.if-is_list.false ∙ sym (not_list c.args.s.now c.args.entries c.args.m (sym c.is_list.ensures ∙ c.if-is_list.false))

pub returns-then-is_list : goal.returns-then-is_list
returns-then-is_list c =
    c.has_move.ensures ∙ by_among c.args.s.now c.args.entries c.args.m (sym c.is_list.ensures ∙ c.if-is_list.true)
