-- `last` of lib.rt meets its contract: r ≡ last_action (now acts.entry) n.
use mathlib.Core.Path.{sym, ap, ◌∙◌}
use Rattle.action.specs.Layout.{action_of}
use Rattle.actions.proofs.LastAction.{last_none, last_some}
use Rattle.actions.proofs.last.Goals as goal

pub returns-then-n-eq0 : goal.returns-then-n-eq0
returns-then-n-eq0 c = sym (last_none c.args.acts.now c.args.n c.if-n-eq0.true)

pub returns : goal.returns
returns c =
    let a = c.args in
    let at-if1 = c.if-n-eq0 in
    c.from_bytes.ensures ∙ ap action_of c.at.ensures ∙ sym (last_some a.acts.now a.n at-if1.false)
