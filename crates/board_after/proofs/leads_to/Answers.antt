-- `leads_to` of lib.rt meets its contract: r ≡ leads_to (now p.entry) m (now q.entry).
use mathlib.Core.Path.{◌∙◌}
use native.Mathlib.Omega.{arith}
use lib.ListN.{take}
use Rattle.board_after.proofs.Tests.{none_before, none_after, from_record}
use Rattle.board_after.proofs.leads_to.Goals as goal

pub returns-in_default : goal.returns-in_default
returns-in_default c = none_before c.args.p.now c.args.m (take 68 c.args.q.now) (grind arith)

pub returns-in_default-first_chunk : goal.returns-in_default-first_chunk
returns-in_default-first_chunk c = none_after c.args.p.now c.args.m c.in-Some.ensures.cases.enough c.args.q.now (grind arith)

pub returns : goal.returns
returns c =
    let old = c.in-Some.ensures.cases in
    let new = c.in-Some-first_chunk.ensures.cases in
    rw (old.same, new.same) at c.follows.ensures ∙ from_record c.args.p.now c.args.m old.enough (take 68 c.args.q.now)
