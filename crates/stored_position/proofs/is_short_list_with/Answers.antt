-- `is_short_list_with` of lib.rt meets its contract: r ≡ list_fits_with (now s.entry) entries m.
use mathlib.Core.Path.{sym, ◌∙◌}
use native.Mathlib.Omega.{arith}
use Rattle.stored_position.proofs.Blocks.{not_list, block_lists}
use Rattle.stored_position.proofs.is_short_list_with.Goals as goal

pub returns-else-is_short_list : goal.returns-else-is_short_list
returns-else-is_short_list c =
    c.if-is_short_list.false ∙ sym (not_list c.args.s.now c.args.entries c.args.m (sym c.is_short_list.ensures ∙ c.if-is_short_list.false))

pub returns-then-is_short_list : goal.returns-then-is_short_list
returns-then-is_short_list c =
    let a = c.args in
    c.has_move.ensures
    ∙ block_lists a.m a.s.now a.entries a.block (omega (arith, c.requires.0)) c.requires.2 (sym c.is_short_list.ensures ∙ c.if-is_short_list.true)
