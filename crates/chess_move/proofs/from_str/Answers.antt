-- `from_str` of lib.rt meets its contract: r ≡ read_move (now text.entry).
use mathlib.Core.Path.{sym, ap, ◌∙◌}
use Rattle.square.specs.Square.{read_square}
use Rattle.chess_move.specs.Coordinate.{with_dest}
use Rattle.chess_move.proofs.Ways.{good_source, bad_source}
use Rattle.chess_move.proofs.from_str.Goals as goal

pub returns-in-Ok : goal.returns-in-Ok
returns-in-Ok c =
    let s = c.args.text.now in
    let behind = c.from_str-in-Ok.ensures ∙ ap read_square c.rest.ensures in
    c.with_dest.ensures ∙ ap (with_dest s _) behind ∙ sym (good_source s _ (sym c.in-Ok.ensures))

pub returns-in-Err : goal.returns-in-Err
returns-in-Err c = c.told.ensures ∙ sym (bad_source c.args.text.now _ (sym c.in-Err.ensures))
