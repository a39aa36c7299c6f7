use mathlib.Core.Path.{sym, ap, ◌∙◌}
use mathlib.Core.List.{List}
use lib.ListN.{get_or, length}
use Rattle.position.specs.Layout.{length_at}
use Rattle.stored_position.specs.Bytes.{lists_move}
use Rattle.stored_position.proofs.Listing.{lists_start, lists_turn, lists_stop, lists_end, lists_short}
use Rattle.stored_position.proofs.lists.Goals as goal

pub returns-in_default : goal.returns-in_default
returns-in_default c = sym (lists_short c.args.s.now c.args.m c.in_default.ensures.cases)

pub loop-i-init : goal.loop-i-init
loop-i-init c =
    let p = c.in-Some.p.now in
    let e = c.in-Some.ensures.cases in
    lists_start p c.args.m (ap length e.same ∙ e.long) ∙ ap (λ (x : List _). lists_move x c.args.m) e.same

pub returns-then-entry-m : goal.returns-then-entry-m
returns-then-entry-m c =
    let p = c.in-Some.p.now in
    sym (lists_stop p c.args.m (get_or p length_at 0) c.loop-i.i c.loop-i-test.true (sym c.entry.ensures ∙ c.if-entry-m.true)) ∙ c.loop-i.invariant

pub loop-i-preserved : goal.loop-i-preserved
loop-i-preserved c =
    let p = c.in-Some.p.now in
    sym (lists_turn p c.args.m (get_or p length_at 0) c.loop-i.i c.loop-i-test.true (λ e. c.if-entry-m.false (c.entry.ensures ∙ e))) ∙ c.loop-i.invariant

pub returns : goal.returns
returns c =
    let p = c.in-Some.p.now in
    sym (lists_end p c.args.m (get_or p length_at 0) c.loop-i.i c.loop-i-test.false) ∙ c.loop-i.invariant
