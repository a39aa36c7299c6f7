use mathlib.Core.Path.{ap, sym, ◌∙◌}
use native.Mathlib.Omega.{arith}
use Rattle.pgn_text.specs.declared.PgnMove.{PgnMove}
use Rattle.pgn.proofs.Crossings.{across_none, more_left, at_lower, at_level}
use Rattle.pgn.proofs.next_across.Goals as goal

pub returns-then-met-eq0 : goal.returns-then-met-eq0
returns-then-met-eq0 c =
    let a = c.args in
    let at_next = c.next-met in
    let at-if1 = c.if-met-eq0 in
    across_none a.text.now a.offset a.level at_next.result at_next.ensures at-if1.true c.across_to.result c.across_to.ensures

pub returns-then-lower-ne0 : goal.returns-then-lower-ne0
returns-then-lower-ne0 c =
    let a = c.args in
    let at_next = c.next-met in
    let at-if1 = c.if-met-eq0 in
    let at-loop = c.loop-closed in
    let at-next2 = c.next-lower in
    let at-if2 = c.if-lower-ne0 in
    at_lower a.text.now a.offset a.level at_next.result at_next.ensures at-if1.false c.across_to-then-lower-ne0.result at-loop.closed
    at-next2.result at-next2.ensures at-if2.true at-loop.invariant c.across_to-then-lower-ne0.ensures

pub loop-closed-preserved : goal.loop-closed-preserved
loop-closed-preserved c =
    let a = c.args in
    let at_next = c.next-met in
    more_left a.text.now a.offset a.level at_next.result at_next.ensures c.if-met-eq0.false c.loop-closed.closed (omega arith) c.loop-closed.invariant
    (sym (ap (λ (x : PgnMove). x.found) c.next-lower.ensures) ∙ c.if-lower-ne0.false)

pub returns : goal.returns
returns c =
    let a = c.args in
    let at_next = c.next-met in
    at_level a.text.now a.offset a.level at_next.result at_next.ensures c.if-met-eq0.false c.across_to-2.result (omega arith) c.across_to-2.ensures
