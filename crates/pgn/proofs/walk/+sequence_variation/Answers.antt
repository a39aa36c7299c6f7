use mathlib.Core.Path.{sym, ◌∙◌}
use native.Mathlib.Omega.{arith}
use Rattle.pgn_text.specs.declared.Token.TheVariants.{Passed, Move}
use Rattle.std.proofs.lemmas.Result.{err_from_is_err_and}
use Rattle.pgn.proofs.Walkers.{came_on, over_on}
use Rattle.pgn.proofs.Walkers.{reach, passed, too_deep_fact, result_met, comment_open, unknown}
use Rattle.pgn.proofs.Walkers.{move_counted, move_stopped, inner_over, inner_open, inner_closed}
use Rattle.pgn.proofs.walk.+sequence_variation.Goals as goal

pub sequence-overflow_add-at-in-Passed : goal.sequence-overflow_add-at-in-Passed
sequence-overflow_add-at-in-Passed t c =
    let a = c.args in
    let l = c.loop-at in
    let k = sym c.token_at.ensures ∙ c.in-Passed.is in
    omega (arith, reach a.s.now a.stop a.level l.at l.count c.loop-at-test.true l.invariant.counted (Passed c.in-Passed.n) k)

pub sequence-loop-at-preserved-in-Passed : goal.sequence-loop-at-preserved-in-Passed
sequence-loop-at-preserved-in-Passed t c =
    let a = c.args in
    let l = c.loop-at in
    let k = sym c.token_at.ensures ∙ c.in-Passed.is in
    came_on a.s.now a.stop a.level l.invariant
    (passed a.s.now a.stop a.level l.at l.count c.loop-at-test.true l.invariant.counted c.in-Passed.n k)

pub sequence-overflow_add-result : goal.sequence-overflow_add-result
sequence-overflow_add-result t c =
    let a = c.args in
    let l = c.loop-at in
    let k = sym c.token_at.ensures ∙ c.in-Move.is in
    omega (arith, reach a.s.now a.stop a.level l.at l.count c.loop-at-test.true l.invariant.counted (Move c.in-Move.n) k)

pub sequence-returns-then-level-stop : goal.sequence-returns-then-level-stop
sequence-returns-then-level-stop t c =
    let a = c.args in
    let l = c.loop-at in
    let k = sym c.token_at.ensures ∙ c.in-Move.is in
    over_on a.s.now a.stop a.level l.invariant
    (move_stopped a.s.now a.level l.at l.count c.loop-at-test.true l.invariant.counted c.in-Move.n k a.stop c.if-level-stop.true)

pub sequence-overflow_add-at-in-Move-2 : goal.sequence-overflow_add-at-in-Move-2
sequence-overflow_add-at-in-Move-2 t c =
    let a = c.args in
    let l = c.loop-at in
    let k = sym c.token_at.ensures ∙ c.in-Move.is in
    omega (arith, reach a.s.now a.stop a.level l.at l.count c.loop-at-test.true l.invariant.counted (Move c.in-Move.n) k)

pub sequence-loop-at-preserved-in-Move : goal.sequence-loop-at-preserved-in-Move
sequence-loop-at-preserved-in-Move t c =
    let a = c.args in
    let l = c.loop-at in
    let k = sym c.token_at.ensures ∙ c.in-Move.is in
    came_on a.s.now a.stop a.level l.invariant
    (move_counted a.s.now a.level l.at l.count c.loop-at-test.true l.invariant.counted c.in-Move.n k a.stop c.if-level-stop.false)

pub sequence-returns-in-Result : goal.sequence-returns-in-Result
sequence-returns-in-Result t c =
    let a = c.args in
    let l = c.loop-at in
    let k = sym c.token_at.ensures ∙ c.in-Result.is in
    over_on a.s.now a.stop a.level l.invariant
    (result_met a.s.now a.stop a.level l.at l.count c.loop-at-test.true l.invariant.counted k c.at_result.result c.at_result.ensures)

pub sequence-returns-in-LeftOpen : goal.sequence-returns-in-LeftOpen
sequence-returns-in-LeftOpen t c =
    let a = c.args in
    let l = c.loop-at in
    let k = sym c.token_at.ensures ∙ c.in-LeftOpen.is in
    over_on a.s.now a.stop a.level l.invariant (comment_open a.s.now a.stop a.level l.at l.count c.loop-at-test.true l.invariant.counted k)

pub sequence-returns-in-Unknown : goal.sequence-returns-in-Unknown
sequence-returns-in-Unknown t c =
    let a = c.args in
    let l = c.loop-at in
    let k = sym c.token_at.ensures ∙ c.in-Unknown.is in
    over_on a.s.now a.stop a.level l.invariant (unknown a.s.now a.stop a.level l.at l.count c.loop-at-test.true l.invariant.counted k)

pub variation-returns-then-level-ge-DEEPEST : goal.variation-returns-then-level-ge-DEEPEST
variation-returns-then-level-ge-DEEPEST t c =
    let a = c.args in
    let p = c.requires in
    too_deep_fact a.s.now a.stop a.level a.at a.moves p.at_in_bounds p.moves_le_at p.at_value (omega (arith, c.if-level-ge-DEEPEST.true))

pub variation-returns-then-s-end : goal.variation-returns-then-s-end
variation-returns-then-s-end t c =
    let a = c.args in
    let p = c.requires in
    inner_open a.s.now a.stop a.level a.at a.moves p.at_in_bounds p.moves_le_at p.at_value (omega (arith, c.if-level-ge-DEEPEST.false)) _ _
    c.in_ok-end.ensures.0 c.if-s-end.true

pub variation-returns : goal.variation-returns
variation-returns t c =
    let a = c.args in
    let p = c.requires in
    let q = c.in_ok-end.ensures in
    let z = c.if-s-end.false in (
      inner_closed a.s.now a.stop a.level a.at a.moves p.at_in_bounds p.moves_le_at p.at_value (omega (arith, c.if-level-ge-DEEPEST.false)) _ _ q.0 z
          (q.1 z),
      omega (arith, q.0.forth),
    )

pub variation-returns-in_err-end : goal.variation-returns-in_err-end
variation-returns-in_err-end t c =
    let a = c.args in
    let p = c.requires in
    let e = err_from_is_err_and c.from_residual.result c.from_residual.ensures.1 in
    rw (e.1, e.2)
    (inner_over a.s.now a.stop a.level a.at a.moves p.at_in_bounds p.moves_le_at p.at_value (omega (arith, c.if-level-ge-DEEPEST.false)) _
    c.in_err-end.ensures)
