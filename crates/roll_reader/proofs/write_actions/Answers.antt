use mathlib.Core.Path.{refl, ap, ◌∙◌}
use native.Mathlib.Omega.{arith}
use Prim.Native.Nat.{◌-◌}
use Rattle.std.specs.Prelude.{Ok}
use Rattle.roll_text.proofs.Entries.{code_range}
use Rattle.roll_reader.proofs.Reading.{move_turn, plain_turn, refused_turn, short_turn}
use Rattle.roll_reader.proofs.Writing.{wrote_none, wrote_length, wrote_more, wrote_stopped, wrote_all}
use Rattle.roll_reader.proofs.write_actions.Goals as goal
use Rattle.roll_reader.proofs.write_actions.Goals.{in-Move, in-Plain}

pub loop-i-init : goal.loop-i-init
loop-i-init c = (omega arith, wrote_none c.args.out.now c.args.s.now c.args.n c.args.most)

pub overflow_sub-left : goal.overflow_sub-left
overflow_sub-left c =
    let l = c.loop-i in
    let t = short_turn (c.args.n - l.i) l.left l.at c.args.s.now c.short_move-m.result (omega (arith, c.loop-i-test.true)) l.invariant.0
    (c.short_move-m.ensures.there (omega (arith, c.if-m-lt-NO_MOVE.true))) in
    t.some

pub loop-i-preserved-then-m-lt-NO_MOVE : goal.loop-i-preserved-then-m-lt-NO_MOVE
loop-i-preserved-then-m-lt-NO_MOVE c =
    let a = c.args in
    let l = c.loop-i in
    let t = short_turn (a.n - l.i) l.left l.at a.s.now c.short_move-m.result (omega (arith, c.loop-i-test.true)) l.invariant.0
    (c.short_move-m.ensures.there (omega (arith, c.if-m-lt-NO_MOVE.true))) in (
      t.inside,
      wrote_more a.out.now l.out _ a.s.now a.n a.most l.i l.left l.at _ _ _ l.invariant.1 refl c.loop-i-test.true c.requires.1 t.then c.put_action.ensures,
    )

pub returns-in_default : goal.returns-in_default
returns-in_default c =
    let a = c.args in
    let l = c.loop-i in
    let stop = refused_turn (a.n - l.i) l.left l.at a.s.now _ _ (omega (arith, c.loop-i-test.true)) l.invariant.0 c.rest.ensures c.read_entry.ensures
    c.in_default.not-Ok in
    absurd (wrote_stopped a.out.now l.out a.s.now a.n a.most l.i l.left l.at _ l.invariant.1 c.requires.0 stop.1)

pub put_action-requires-in-Move : goal.put_action-requires-in-Move
put_action-requires-in-Move c =
    let a = c.args in
    let l = c.loop-i in
    let t = move_turn (a.n - l.i) l.left l.at a.s.now _ _ (omega (arith, c.loop-i-test.true)) l.invariant.0 c.rest.ensures c.read_entry.ensures _ _
    (c.in-Ok.is ∙ ap Ok c.in-Move.is) in
    let long = wrote_length a.out.now l.out a.s.now a.n a.most l.i l.left l.at l.invariant.1 (omega (arith, c.loop-i-test.true)) c.requires.1 in
    (omega (arith, c.loop-i-test.true, c.requires.1), t.last)

pub overflow_add-at-in-Move : goal.overflow_add-at-in-Move
overflow_add-at-in-Move c =
    let a = c.args in
    let l = c.loop-i in
    let t = move_turn (a.n - l.i) l.left l.at a.s.now _ _ (omega (arith, c.loop-i-test.true)) l.invariant.0 c.rest.ensures c.read_entry.ensures _ _
    (c.in-Ok.is ∙ ap Ok c.in-Move.is) in
    omega (arith, t.inside)

pub overflow_sub-left-in-Move : goal.overflow_sub-left-in-Move
overflow_sub-left-in-Move c =
    let a = c.args in
    let l = c.loop-i in
    let t = move_turn (a.n - l.i) l.left l.at a.s.now _ _ (omega (arith, c.loop-i-test.true)) l.invariant.0 c.rest.ensures c.read_entry.ensures _ _
    (c.in-Ok.is ∙ ap Ok c.in-Move.is) in
    t.some

pub overflow_cast-code : goal.overflow_cast-code
overflow_cast-code c =
    let a = c.args in
    let l = c.loop-i in
    let t = plain_turn (a.n - l.i) l.left l.at a.s.now _ _ (omega (arith, c.loop-i-test.true)) l.invariant.0 c.rest.ensures c.read_entry.ensures _ _
    (c.in-Ok.is ∙ ap Ok c.in-Plain.is) in
    omega (arith, code_range _ t.is_code_fact)

pub overflow_add-at-in-Plain : goal.overflow_add-at-in-Plain
overflow_add-at-in-Plain c =
    let a = c.args in
    let l = c.loop-i in
    let t = plain_turn (a.n - l.i) l.left l.at a.s.now _ _ (omega (arith, c.loop-i-test.true)) l.invariant.0 c.rest.ensures c.read_entry.ensures _ _
    (c.in-Ok.is ∙ ap Ok c.in-Plain.is) in
    omega (arith, t.inside)

pub loop-i-preserved : goal.loop-i-preserved
loop-i-preserved c =
    let a = c.args in
    let l = c.loop-i in
    elim c.match-e.branch [
      | in-Move w ↦
          let t = move_turn (a.n - l.i) l.left l.at a.s.now _ _ (omega (arith, c.loop-i-test.true)) l.invariant.0 c.rest.ensures c.read_entry.ensures _ _
          (c.in-Ok.is ∙ ap Ok w.in-Move.is) in
          rw (w.at-is, w.left-is, w.out-is) (
            t.inside,
            wrote_more a.out.now l.out _ a.s.now a.n a.most l.i l.left l.at _ _ _ l.invariant.1 refl c.loop-i-test.true c.requires.1 t.then
                w.put_action-in-Move.ensures,
          )
      | in-Plain w ↦
          let t = plain_turn (a.n - l.i) l.left l.at a.s.now _ _ (omega (arith, c.loop-i-test.true)) l.invariant.0 c.rest.ensures c.read_entry.ensures _ _
          (c.in-Ok.is ∙ ap Ok w.in-Plain.is) in
          rw (w.at-is, w.left-is, w.out-is) (
            t.inside,
            wrote_more a.out.now l.out _ a.s.now a.n a.most l.i l.left l.at _ _ _ l.invariant.1 refl c.loop-i-test.true c.requires.1 t.then
                w.put_action-in-Plain.ensures,
          )
    ]

pub returns : goal.returns
returns c =
    let a = c.args in
    let l = c.loop-i in
    wrote_all a.out.now l.out a.s.now a.n a.most l.i l.left l.at l.invariant.1 c.loop-i-test.false c.requires.0
