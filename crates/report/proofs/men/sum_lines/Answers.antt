use borrow.Author.Rules.{rules}
use native.Mathlib.Omega.{arith}
use Rattle.report.proofs.Sums.{no_lines, sums_ask, line_fits, line_more}
use Rattle.report.proofs.men.sum_lines.Goals as goal

pub loop-line-init : goal.loop-line-init
loop-line-init c = no_lines _ _ _ _ c.requires (search rules)

pub note_line-counted-requires : goal.note_line-counted-requires
note_line-counted-requires c =
    let others = sums_ask c.loop-line.invariant (omega (arith, c.args.page.rooms.few)) in
    record { k_lt_lines = omega arith; by_index = others.1.0 }

pub overflow_add-counted : goal.overflow_add-counted
overflow_add-counted c =
    let e = c.note_line-counted.ensures in
    record { fits = line_fits c.loop-line.invariant (omega arith) (e.counted, (e.men, e.buckets)) }

pub loop-line-preserved : goal.loop-line-preserved
loop-line-preserved c =
    let e = c.note_line-counted.ensures in
    line_more c.loop-line.invariant (omega arith) (e.counted, (e.men, e.buckets))
