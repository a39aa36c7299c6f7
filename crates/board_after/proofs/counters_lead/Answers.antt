-- `counters_lead` of lib.rt meets its contract: r ≡ counters_lead (now p.entry) m half full clock number.
use native.Mathlib.Omega.{arith}
use Rattle.board_after.proofs.Counters.{short_lead, other_clock, by_number}
use Rattle.board_after.proofs.counters_lead.Goals as goal

pub returns-in_default : goal.returns-in_default
returns-in_default c =
    let a = c.args in
    short_lead a.p.now a.m a.half a.full a.clock a.number (grind arith)

pub returns-then-clock-half_after : goal.returns-then-clock-half_after
returns-then-clock-half_after c =
    let a = c.args in
    let front = c.in-Some.ensures.cases in
    let step = c.of.ensures in
    let half = rw (step.source, step.dest, c.squares_of.ensures) at c.half_after.ensures in
    other_clock a.p.now a.m a.half a.full a.clock a.number front.enough _ front.same _ half c.if-clock-half_after.true

pub returns : goal.returns
returns c =
    let a = c.args in
    let front = c.in-Some.ensures.cases in
    let step = c.of.ensures in
    let half = rw (step.source, step.dest, c.squares_of.ensures) at c.half_after.ensures in
    by_number a.p.now a.m a.half a.full a.clock a.number front.enough _ front.same _ half c.if-clock-half_after.false _
    c.full_after.ensures
