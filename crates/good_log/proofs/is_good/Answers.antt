use mathlib.Core.Path.{◌≡◌, refl, ap, sym, ◌∙◌}
use borrow.Author.Tests.{eq-eqb, ne_eqb}
use Rattle.stored_position.specs.Bytes.{is_position}
use Rattle.stored_position.specs.CodeParts.{record_fits}
use Rattle.good_log.proofs.Pass.{Given, pass_start, pass_end, leave_out, leave_on, leads_on, stay_out, stay_on, no_start}
use Rattle.good_log.proofs.is_good.Goals.{then-x-le-LAST_MOVE+else-not-move_may_stand, else-x-le-LAST_MOVE+else-not-other_may_stand}
use Rattle.good_log.proofs.is_good.Goals as goal

pub returns-then-not-has_record : goal.returns-then-not-has_record
returns-then-not-has_record c =
    let a = c.args in
    let at_at = c.at in
    let at-has-record = c.has_record in
    let no_record = sym (ap record_fits at_at.ensures) ∙ sym at-has-record.ensures ∙ c.if-not-has_record.true in
    sym (no_start a.acts.now a.ps.now a.n a.m no_record)

pub loop-i-init : goal.loop-i-init
loop-i-init c =
    let a = c.args in
    let at_at = c.at in
    let at-has-record = c.has_record in
    let has-record = sym (ap record_fits at_at.ensures) ∙ sym at-has-record.ensures ∙ c.if-not-has_record.false in
    (pass_start a.acts.now a.ps.now a.n a.m, has-record)

pub returns-then-not-move_may_stand : goal.returns-then-not-move_may_stand
returns-then-not-move_may_stand c =
    let a = c.args in
    let given = c.requires in
    let known = c.shared_slice_known-1 in
    let loop = c.loop-i in
    let loop-test = c.loop-i-test in
    let read = c.move_at-x in
    let at-if3 = c.if-x-le-LAST_MOVE in
    let may = c.move_may_stand in
    let log : Given a.acts.now a.ps.now a.n a.m =
    record { few = given.0; some = given.1; room = given.2; place = given.3 } in
    let may-not = sym may.ensures ∙ c.if-not-move_may_stand.true in
    sym (leave_out a.acts.now a.ps.now a.n a.m loop.i loop.k log loop.invariant.0 loop-test.true (λ j. (known.given j).fits)
    read.result read.ensures at-if3.true may-not)

pub returns-then-not-other_may_stand : goal.returns-then-not-other_may_stand
returns-then-not-other_may_stand c =
    let a = c.args in
    let given = c.requires in
    let known = c.shared_slice_known-1 in
    let loop = c.loop-i in
    let loop-test = c.loop-i-test in
    let read = c.move_at-x in
    let at-if3 = c.if-x-le-LAST_MOVE in
    let may = c.other_may_stand in
    let log : Given a.acts.now a.ps.now a.n a.m =
    record { few = given.0; some = given.1; room = given.2; place = given.3 } in
    let may-not = sym may.ensures ∙ c.if-not-other_may_stand.true in
    sym (stay_out a.acts.now a.ps.now a.n a.m loop.i loop.k log loop.invariant.0 loop-test.true (λ j. (known.given j).fits)
    read.result read.ensures at-if3.false may-not)

pub loop-i-preserved : goal.loop-i-preserved
loop-i-preserved c =
    let a = c.args in
    let given = c.requires in
    let known = c.shared_slice_known-1 in
    let loop = c.loop-i in
    let loop-test = c.loop-i-test in
    let read = c.move_at-x in
    let log : Given a.acts.now a.ps.now a.n a.m =
    record { few = given.0; some = given.1; room = given.2; place = given.3 } in
    let leaves = leave_on a.acts.now a.ps.now a.n a.m loop.i loop.k log loop.invariant.0 loop-test.true (λ j. (known.given j).fits)
    read.result read.ensures in
    let leads = leads_on a.ps.now a.m loop.k read.result in
    let stays = stay_on a.acts.now a.ps.now a.n a.m loop.i loop.k log loop.invariant.0 loop-test.true (λ j. (known.given j).fits)
    read.result read.ensures in
    elim c.if-x-le-LAST_MOVE.branch [
      | then-x-le-LAST_MOVE+else-not-move_may_stand w ↦
          let may = sym w.move_may_stand.ensures ∙ w.if-not-move_may_stand.false in
          rw w.k-is (leaves w.if-x-le-LAST_MOVE.true may, leads w.if-x-le-LAST_MOVE.true loop.invariant.1 may)
      | else-x-le-LAST_MOVE+else-not-other_may_stand w ↦
          let may = sym w.other_may_stand.ensures ∙ w.if-not-other_may_stand.false in
          rw w.k-is (stays w.if-x-le-LAST_MOVE.false may, loop.invariant.1)
    ]

pub returns-else-k-m : goal.returns-else-k-m
returns-else-k-m c =
    let a = c.args in
    let loop = c.loop-i in
    let end = pass_end a.acts.now a.ps.now a.n a.m loop.i loop.k c.loop-i-test.false loop.invariant.0 in
    ne_eqb loop.k a.m c.if-k-m.false ∙ (rw (ne_eqb a.m loop.k (λ e. c.if-k-m.false (sym e))) at end)

pub returns-then-k-m : goal.returns-then-k-m
returns-then-k-m c =
    let a = c.args in
    let loop = c.loop-i in
    let all-met : loop.k ≡ a.m = c.if-k-m.true in
    let end = pass_end a.acts.now a.ps.now a.n a.m loop.i loop.k c.loop-i-test.false loop.invariant.0 in
    c.is_position.ensures ∙ ap is_position c.at-then-k-m.ensures ∙ (rw (all-met, eq-eqb a.m a.m refl) at end)
