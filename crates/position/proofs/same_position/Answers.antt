-- `same_position` of lib.rt meets its contract: r ≡ equal (positionOf (now p.entry)) (positionOf (now q.entry)).
use mathlib.Core.Path.{sym, ◌∙◌}
use native.Mathlib.Omega.{arith}
use Rattle.board_builder.specs.BoardBuilder.{side_at}
use Rattle.position.proofs.Moves.{same_lists, equal_not, equal_not_at, equal_lists}
use Rattle.position.proofs.same_position.Goals as goal

pub returns-then-p-q : goal.returns-then-p-q
returns-then-p-q c = sym (equal_not_at _ _ side_at (omega arith) c.if-p-q.true)

pub returns-then-not-same_bytes : goal.returns-then-not-same_bytes
returns-then-not-same_bytes c = sym (equal_not _ _ (sym c.same_bytes.ensures ∙ c.if-not-same_bytes.true))

pub returns : goal.returns
returns c =
    let a = c.args in
    let at-same-bytes = c.same_bytes in
    let at-if2 = c.if-not-same_bytes in
    c.same_bytes-2.ensures
    ∙ same_lists a.p.now a.q.now
    c.fits-p c.fits-q c.told-p c.told-q
    ∙ sym (equal_lists a.p.now a.q.now (sym at-same-bytes.ensures ∙ at-if2.false))
