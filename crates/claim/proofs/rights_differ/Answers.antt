-- `rights_differ` of lib.rt meets its contract: r ≡ rights_differ (positionOf (now p.entry)) (positionOf (now q.entry)).
use borrow.Author.Tests.{ne_eqb}
use mathlib.Core.Path.{ap, ap₂, sym, ◌∙◌}
use mathlib.Core.Bool.{not}
use Prim.Native.Nat.{ℕ}
use lib.Dec.{eqb}
use Rattle.claim.proofs.Emptied.{by_white, by_black}
use Rattle.claim.proofs.rights_differ.Goals as goal

pub returns-then-byte_at : goal.returns-then-byte_at
returns-then-byte_at c =
    let a = c.args in
    let at-byte-at = c.byte_at in
    let at-byte-at2 = c.byte_at-2 in
    ap not (ne_eqb _ _ c.if-byte_at.true)
    ∙ sym (by_white a.p.now a.q.now (λ e. c.if-byte_at.true (at-byte-at.ensures ∙ e ∙ sym at-byte-at2.ensures)))

pub returns-else-byte_at : goal.returns-else-byte_at
returns-else-byte_at c =
    let at-args = c.args in
    let at-byte-at = c.byte_at in
    let at-byte-at2 = c.byte_at-2 in
    let at-if1 = c.if-byte_at in
    let at-byte-at3 = c.byte_at-else-byte_at in
    ap₂ (λ (a b : ℕ). not (eqb a b)) at-byte-at3.ensures c.byte_at-else-byte_at-2.ensures
    ∙ sym (by_black at-args.p.now at-args.q.now (sym at-byte-at.ensures ∙ at-if1.false ∙ at-byte-at2.ensures))
