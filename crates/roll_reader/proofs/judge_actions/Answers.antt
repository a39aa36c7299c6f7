use mathlib.Core.Path.{◌≡◌, ap, sym, ◌∙◌}
use native.Mathlib.Omega.{arith}
use Prim.Native.Nat.{◌-◌}
use Rattle.std.specs.Prelude.{Ok, Err}
use Rattle.std.proofs.lemmas.Result.{err_from_is_err_and}
use Rattle.roll_text.specs.Roll.{read_actions}
use Rattle.roll_reader.specs.CodeWalk.{acts_check}
use Rattle.roll_reader.proofs.Reading.{move_turn, plain_turn, stop_turn, short_turn, judged_move, judged_plain, judged_end, judged_long, number_halted}
use Rattle.roll_reader.proofs.Reading.{acts_told}
use Rattle.roll_reader.proofs.judge_actions.Goals as goal
use Rattle.roll_reader.proofs.judge_actions.Goals.{in-Move, in-Plain}

pub overflow_sub-left : goal.overflow_sub-left
overflow_sub-left c =
    let l = c.loop in
    let t = short_turn (c.args.n - l.counter) l.left l.at c.args.s.now c.short_move-m.result (omega (arith, c.loop-test.true)) l.invariant.0
    (c.short_move-m.ensures.there (omega (arith, c.if-m-lt-NO_MOVE.true))) in
    t.some

pub loop-preserved-then-m-lt-NO_MOVE : goal.loop-preserved-then-m-lt-NO_MOVE
loop-preserved-then-m-lt-NO_MOVE c =
    let s = c.args.s.now in
    let n = c.args.n in
    let l = c.loop in
    let t = short_turn (n - l.counter) l.left l.at s c.short_move-m.result (omega (arith, c.loop-test.true)) l.invariant.0
    (c.short_move-m.ensures.there (omega (arith, c.if-m-lt-NO_MOVE.true))) in
    (t.inside, judged_move (acts_check (read_actions n c.args.most s)) n l.counter l.left l.at s _ 3 t l.invariant.1)

pub overflow_add-at-in-Move : goal.overflow_add-at-in-Move
overflow_add-at-in-Move c =
    let l = c.loop in
    let t = move_turn (c.args.n - l.counter) l.left l.at c.args.s.now _ _ (omega (arith, c.loop-test.true)) l.invariant.0 c.rest.ensures
    c.read_entry.ensures _ _ (c.in_ok-size.was ∙ ap Ok c.in-Move.is) in
    omega (arith, t.inside)

pub overflow_sub-left-in-Move : goal.overflow_sub-left-in-Move
overflow_sub-left-in-Move c =
    let l = c.loop in
    let t = move_turn (c.args.n - l.counter) l.left l.at c.args.s.now _ _ (omega (arith, c.loop-test.true)) l.invariant.0 c.rest.ensures
    c.read_entry.ensures _ _ (c.in_ok-size.was ∙ ap Ok c.in-Move.is) in
    t.some

pub overflow_add-at-in-Plain : goal.overflow_add-at-in-Plain
overflow_add-at-in-Plain c =
    let l = c.loop in
    let t = plain_turn (c.args.n - l.counter) l.left l.at c.args.s.now _ _ (omega (arith, c.loop-test.true)) l.invariant.0 c.rest.ensures
    c.read_entry.ensures _ _ (c.in_ok-size.was ∙ ap Ok c.in-Plain.is) in
    omega (arith, t.inside)

pub loop-preserved : goal.loop-preserved
loop-preserved c =
    let s = c.args.s.now in
    let n = c.args.n in
    let l = c.loop in
    let total = acts_check (read_actions n c.args.most s) in
    elim c.match-branch-2.branch [
      | in-Move w ↦
          let t = move_turn (n - l.counter) l.left l.at s _ _ (omega (arith, c.loop-test.true)) l.invariant.0 c.rest.ensures c.read_entry.ensures _ _
          (c.in_ok-size.was ∙ ap Ok w.in-Move.is) in
          rw (w.at-is, w.left-is) (t.inside, judged_move total n l.counter l.left l.at s _ _ t l.invariant.1)
      | in-Plain w ↦
          let t = plain_turn (n - l.counter) l.left l.at s _ _ (omega (arith, c.loop-test.true)) l.invariant.0 c.rest.ensures c.read_entry.ensures _ _
          (c.in_ok-size.was ∙ ap Ok w.in-Plain.is) in
          rw (w.at-is, w.left-is) (t.inside, judged_plain total n l.counter l.left l.at s _ _ t l.invariant.1)
    ]

pub returns-in_err-size : goal.returns-in_err-size
returns-in_err-size c =
    let l = c.loop in
    let p = err_from_is_err_and c.from_residual.result c.from_residual.ensures.1 in
    let stop = stop_turn (c.args.n - l.counter) l.left l.at c.args.s.now _ _ (omega (arith, c.loop-test.true)) l.invariant.0 c.rest.ensures
    c.read_entry.ensures _ c.in_err-size.was in
    let a = c.args in
    let t = acts_told (Err _) (read_actions a.n a.most a.s.now) (sym (l.invariant.1 ∙ ap acts_check stop ∙ number_halted _)) in
    rw (p.1, p.2) (record { check = t.0; number = t.1 })

pub returns-then-at-s : goal.returns-then-at-s
returns-then-at-s c =
    let a = c.args in
    let l = c.loop in
    let x = read_actions a.n a.most a.s.now in
    let t = acts_told _ x (judged_long (acts_check x) a.n l.counter l.left l.at a.s.now c.loop-test.false c.if-at-s.true l.invariant.1) in
    record { check = t.0; number = t.1 }

pub returns : goal.returns
returns c =
    let a = c.args in
    let l = c.loop in
    let x = read_actions a.n a.most a.s.now in
    let t = acts_told _ x (judged_end (acts_check x) a.n l.counter l.left l.at a.s.now c.loop-test.false c.if-at-s.false l.invariant.1) in
    record { check = t.0; number = t.1 }
