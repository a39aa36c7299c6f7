-- `start_size` of lib.rt meets its contract: (r ≡ length (start_text b)) × (r ≤ start_most).
use native.Mathlib.Omega.{arith}
use Rattle.roll_writer.proofs.Laws.{groups_most}
use Rattle.roll_writer.proofs.Whole.{start_long_lem}
use Rattle.roll_writer.proofs.start_size.Goals as goal

pub overflow_add-result : goal.overflow_add-result
overflow_add-result c =
    let a = c.args in
    let at-number-length = c.number_length-half in
    omega (arith, at-number-length.ensures, groups_most 5 a.b.half_moves)

pub overflow_add-result-2 : goal.overflow_add-result-2
overflow_add-result-2 c =
    let a = c.args in
    let at-number-length = c.number_length-half in
    omega (arith, at-number-length.ensures, groups_most 5 a.b.half_moves, c.number_length-full.ensures, groups_most 5 a.b.full_moves)

pub returns : goal.returns
returns c =
    let a = c.args in
    let pre = c.requires in
    let at-number-length = c.number_length-half in
    let b = a.b in
    let half = groups_most 5 b.half_moves in
    let full = groups_most 5 b.full_moves in
    let long = start_long_lem b (pre) in (
      omega (arith, long, at-number-length.ensures, c.number_length-full.ensures),
      omega
          (arith, at-number-length.ensures, c.number_length-full.ensures, half, full),
    )
