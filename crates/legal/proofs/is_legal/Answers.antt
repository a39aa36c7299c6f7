-- `is_legal` of lib.rt meets its contract: r ≡ is_legal b m.
use mathlib.Core.Path.{refl, sym, ◌∙◌}
use Rattle.std.specs.Prelude.{unwrap_or}
use Rattle.move_laws.specs.Legal.{own_rights}
use Rattle.legal.proofs.Safety.{not_gone, gone}
use Rattle.legal.proofs.OffLines.{calm_by, safe_untried}
use Rattle.legal.proofs.is_legal.Goals as goal

pub returns-then-not-goes : goal.returns-then-not-goes
unfolding own_rights
returns-then-not-goes c =
    let b = c.args.p.now.board in
    let rights = c.pick-rights in
    let own = rw c.side-side.ensures at rights.ensures in
    let went = rw c.side-side.ensures at c.goes.ensures in
    not_gone b c.args.m b.pieces rights.result refl own (sym went ∙ c.if-not-goes.true)

pub returns-then-keeps_safe : goal.returns-then-keeps_safe
unfolding own_rights
returns-then-keeps_safe c =
    let b = c.args.p.now.board in
    let king = c.args.king in
    let rights = c.pick-rights in
    let own = rw c.side-side.ensures at rights.ensures in
    let went = rw c.side-side.ensures at c.goes.ensures in
    safe_untried b c.args.m (unwrap_or king 64) b.pieces rights.result c.args.p.now.good refl own
    (calm_by b.pieces b.side_to_move king c.requires.1) (sym went ∙ c.if-not-goes.false) (sym c.keeps_safe.ensures ∙ c.if-keeps_safe.true)

pub returns : goal.returns
unfolding own_rights
returns c =
    let b = c.args.p.now.board in
    let rights = c.pick-rights in
    let own = rw c.side-side.ensures at rights.ensures in
    let went = rw c.side-side.ensures at c.goes.ensures in
    c.safe_after.ensures ∙ gone b c.args.m b.pieces rights.result refl own (sym went ∙ c.if-not-goes.false)
