-- `is_irreversible` of lib.rt meets its contract: r ≡ irreversible (positionOf (now p.entry)) m.
use borrow.Author.Tests.{eq-eqb}
use mathlib.Core.Path.{ap, sym, ◌∙◌}
use mathlib.Core.Bool.{not}
use Prim.Native.Nat.{ℕ}
use lib.Dec.{eqb}
use Rattle.square.specs.Piece.{kind_of}
use Rattle.claim.proofs.Emptied.{by_pawn, by_square}
use Rattle.claim.proofs.is_irreversible.Goals as goal

pub returns-then-kind_of-eq-PAWN : goal.returns-then-kind_of-eq-PAWN
returns-then-kind_of-eq-PAWN c =
    let a = c.args in
    let at-byte-at = c.byte_at-moved in
    let at-kind-of = c.kind_of in
    eq-eqb _ _ c.if-kind_of-eq-PAWN.true
    ∙ sym (by_pawn a.p.now a.m (ap kind_of (sym at-byte-at.ensures) ∙ sym at-kind-of.ensures ∙ c.if-kind_of-eq-PAWN.true))

pub returns-else-kind_of-eq-PAWN : goal.returns-else-kind_of-eq-PAWN
returns-else-kind_of-eq-PAWN c =
    let at-args = c.args in
    let at-byte-at = c.byte_at-moved in
    let at-kind-of = c.kind_of in
    let at-if1 = c.if-kind_of-eq-PAWN in
    ap (λ (a : ℕ). not (eqb a 0)) c.byte_at.ensures
    ∙ sym (by_square at-args.p.now at-args.m (λ e. at-if1.false (at-kind-of.ensures ∙ ap kind_of at-byte-at.ensures ∙ e)))
