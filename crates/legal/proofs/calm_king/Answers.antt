-- `calm_king` of lib.rt meets its contract: a king's square that is handed out is calm.
use mathlib.Core.Path.{sym, ◌∙◌}
use Rattle.std.specs.Prelude.{unwrap_or}
use Rattle.legal.proofs.OffLines.{calm, none_past}
use Rattle.legal.proofs.calm_king.Goals as goal

pub returns : goal.returns
returns c =
    let king = c.in_ok-king in
    let last = rw c.man-man.ensures at king.ensures.last in
    let next = rw c.man-man.ensures at c.last_of-2.ensures.last in (
      king.ensures.below,
      calm c.args.squares.now c.args.side.number king.king (unwrap_or c.last_of-2.result 64) (sym c.checked.ensures ∙ c.if-checked.false)
          last next (none_past c.last_of-2.result (sym c.is_some.ensures ∙ c.if-is_some.false)) king.ensures.below,
    )
