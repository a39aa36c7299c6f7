-- `two_set` of lib.rt meets its contract: r ≡ same (now new.entry) (set (set (now old.entry) source 0) dest man).
use mathlib.Core.Path.{ap₂, sym, ◌∙◌}
use native.Mathlib.Omega.{arith}
use lib.Dec.{eqb}
use Prim.Native.Nat.{◌+◌}
use lib.ListN.{get_or}
use Rattle.board_after.proofs.Differ.{differs_most, source_left, dest_other, two_tell}
use Rattle.board_after.proofs.two_set.Goals as goal

pub returns-then-new-from-ne0 : goal.returns-then-new-from-ne0
returns-then-new-from-ne0 c =
    let a = c.args in
    let at_pre = c.requires in
    sym (source_left a.old.now a.new.now a.way.source a.way.dest a.man (omega arith) (omega arith)
    (omega arith) at_pre c.if-new-from-ne0.true)

pub returns-then-new-to : goal.returns-then-new-to
returns-then-new-to c =
    let a = c.args in
    let at_pre = c.requires in
    sym (dest_other a.old.now a.new.now a.way.source a.way.dest a.man (omega arith) (omega arith)
    (omega arith) at_pre c.if-new-to.true)

pub overflow_add-result : goal.overflow_add-result
overflow_add-result c =
    let a = c.args in
    let at-differs = c.differs in
    omega (
      arith,
      at-differs.ensures,
      c.differs-2.ensures,
      differs_most (get_or a.old.now a.way.source 0) 0,
      differs_most (get_or a.old.now a.way.dest 0) a.man,
    )

pub returns : goal.returns
returns c =
    let a = c.args in
    let at_pre = c.requires in
    let at-if1 = c.if-new-from-ne0 in
    let at-if2 = c.if-new-to in
    let at-differing = c.differing in
    let at-differs = c.differs in
    ap₂ eqb at-differing.ensures (ap₂ ◌+◌ at-differs.ensures c.differs-2.ensures)
    ∙ two_tell a.old.now a.new.now a.way.source a.way.dest a.man (omega arith) (omega arith)
    (omega arith) at_pre at-if1.false at-if2.false
