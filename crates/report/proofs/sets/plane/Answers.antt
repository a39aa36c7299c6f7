-- `plane` of sets.rt meets its contract: r ≡ plane_from a b c d.
use native.Mathlib.Omega.{arith}
use Rattle.report.proofs.Planes.{plane_fits}
use Rattle.report.proofs.sets.plane.Goals as goal

pub overflow_mul-result : goal.overflow_mul-result
overflow_mul-result c =
    let a = c.args in
    omega (arith, plane_fits a.a a.b a.c a.d, c.lowest.ensures, c.lowest-2.ensures)

pub overflow_add-result : goal.overflow_add-result
overflow_add-result c =
    let a = c.args in
    omega (arith, plane_fits a.a a.b a.c a.d, c.lowest.ensures, c.lowest-2.ensures)

pub overflow_mul-result-2 : goal.overflow_mul-result-2
overflow_mul-result-2 c =
    let a = c.args in
    omega (arith, plane_fits a.a a.b a.c a.d, c.lowest.ensures, c.lowest-2.ensures, c.lowest-3.ensures)

pub overflow_add-result-2 : goal.overflow_add-result-2
overflow_add-result-2 c =
    let a = c.args in
    omega (arith, plane_fits a.a a.b a.c a.d, c.lowest.ensures, c.lowest-2.ensures, c.lowest-3.ensures)

pub overflow_mul-result-3 : goal.overflow_mul-result-3
overflow_mul-result-3 c =
    let a = c.args in
    let at-lowest = c.lowest in
    let at-lowest2 = c.lowest-2 in
    let at-lowest3 = c.lowest-3 in
    omega
    (arith, plane_fits a.a a.b a.c a.d, at-lowest.ensures, at-lowest2.ensures, at-lowest3.ensures, c.lowest-4.ensures)

pub overflow_add-result-3 : goal.overflow_add-result-3
overflow_add-result-3 c =
    let a = c.args in
    let at-lowest = c.lowest in
    let at-lowest2 = c.lowest-2 in
    let at-lowest3 = c.lowest-3 in
    omega
    (arith, plane_fits a.a a.b a.c a.d, at-lowest.ensures, at-lowest2.ensures, at-lowest3.ensures, c.lowest-4.ensures)
