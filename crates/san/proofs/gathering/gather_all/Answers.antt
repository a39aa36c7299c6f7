use native.Mathlib.Omega.{arith}
use mathlib.Core.Path.{◌≡◌}
use mathlib.Core.Bool.{true, false}
use Prim.Native.Nat.{ℕ, ◌+◌, ◌*◌, ◌-◌, ◌≤◌, ◌<◌, ◌/◌}
use lib.Dec.{leb}
use lib.ListN.{length}
use borrow.Author.Tests.{leb-true, leb-false}
use Rattle.san.specs.CodeGathered.{picked}
use Rattle.san.proofs.OnePass.{at_front, behind, turn, turn_start, turn_end, left_count, left_sum}
use Rattle.san.proofs.gathering.gather_all.Goals as goal

pub loop-i-init : goal.loop-i-init
loop-i-init c =
    let moves = c.args.moves.now in
    let front : ℕ = (length moves + 15) / 16 * 8 in
    (omega arith, turn_start (picked c.args.mask c.args.want) moves front (length moves - front) (omega arith))

pub gather_two-g-requires : goal.gather_two-g-requires
gather_two-g-requires c =
    let a = c.args in
    let at-loop = c.loop-i in
    let moves = a.moves.now in
    let p = picked a.mask a.want in
    let front : ℕ = (length moves + 15) / 16 * 8 in
    let back : ℕ = length moves - front in
    let left = at-loop.invariant.1 in
    let count = left_count p moves (at_front moves front at-loop.i) (behind moves front (back + at-loop.i)) at-loop.g left in
    let sum = left_sum p moves (at_front moves front at-loop.i) (behind moves front (back + at-loop.i)) at-loop.g left in
    record { count_le_longest_list = omega (arith, count, sum); sum_bound = omega (arith, count, sum) }

pub loop-i-preserved : goal.loop-i-preserved
loop-i-preserved c =
    let a = c.args in
    let at-loop = c.loop-i in
    let at-loop-test = c.loop-i-test in
    let at-choose = c.choose-n in
    let at-picked = c.picked-here in
    let at-picked2 = c.picked in
    let at_both = c.both-there in
    let moves = a.moves.now in
    let p = picked a.mask a.want in
    let front : ℕ = (length moves + 15) / 16 * 8 in
    let back : ℕ = length moves - front in
    let left = at-loop.invariant.1 in
    let after : leb 32768 at-loop.k ≡ true → front ≤ back + at-loop.i = λ e. omega (arith, leb-true 32768 at-loop.k e) in
    let before : leb 32768 at-loop.k ≡ false → back + at-loop.i < front = λ e. omega (arith, leb-false 32768 at-loop.k e) in
    let next = turn p moves front back at-loop.i at-loop.g (leb 32768 at-loop.k) at-loop-test.true (omega arith) (omega arith) after before left in
    rw (c.gather_two-g.ensures, at-picked.ensures, at_both.ensures, at-picked2.ensures, at-choose.ensures) (omega arith, next)

pub returns : goal.returns
returns c =
    let a = c.args in
    let moves = a.moves.now in
    let p = picked a.mask a.want in
    let front : ℕ = (length moves + 15) / 16 * 8 in
    let back : ℕ = length moves - front in
    let s = c.loop-i in
    let left = s.invariant.1 in
    turn_end p moves front s.i (back + s.i) s.g c.loop-i-test.false (omega arith) left
