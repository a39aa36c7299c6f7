-- `result` of lib.rt meets its contract: r ≡ resultAt (now acts.entry) (now ps.entry) n m.
use mathlib.Core.Path.{ap, ap₂, sym, ◌∙◌}
use mathlib.Core.List.{List}
use Prim.Native.Nat.{ℕ}
use Rattle.position.specs.Layout.{position_of}
use Rattle.ending.specs.Ending.{result_without_moves, result_of}
use Rattle.actions.specs.Part.{last_action}
use Rattle.ending.proofs.Results.{result_empty, result_last}
use Rattle.ending.proofs.result.Goals as goal

pub returns-then-byte_at-eq0 : goal.returns-then-byte_at-eq0
returns-then-byte_at-eq0 c =
    let a = c.args in
    let at_at = c.at-p in
    let at-byte-at = c.byte_at in
    let at-if1 = c.if-byte_at-eq0 in
    let at-byte-at2 = c.byte_at-then-byte_at-eq0 in
    let last = last_action a.acts.now a.n in
    c.without_moves.ensures
    ∙ ap₂ result_without_moves at-byte-at2.ensures c.byte_at-then-byte_at-eq0-2.ensures
    ∙ sym (result_empty at_at.result.now last (sym at-byte-at.ensures ∙ at-if1.true))
    ∙ ap (λ (p : List ℕ). result_of (position_of p) last) at_at.ensures

pub returns : goal.returns
returns c =
    let a = c.args in
    let at_at = c.at-p in
    let last = last_action a.acts.now a.n in
    c.by_last_action.ensures
    ∙ sym (result_last at_at.result.now last (λ e. c.if-byte_at-eq0.false (c.byte_at.ensures ∙ e)))
    ∙ ap (λ (p : List ℕ). result_of (position_of p) last) at_at.ensures
