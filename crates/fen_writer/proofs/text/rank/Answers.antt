use borrow.Author.Rules.{rules}
use native.Mathlib.Omega.{arith}
use Prim.Native.Nat.{ℕ, ◌+◌, zero-le}
use lib.ListN.{take, drop, get_or}
use Rattle.fen_writer.proofs.Signs.{code_at, sign_most, sign_byte}
use Rattle.fen_writer.proofs.Rows.{row_start, row_end, row_turn, run_most, count_most, count_least, row_long, row_at}
use Rattle.fen_writer.proofs.text.rank.Goals as goal

pub loop-i-init : goal.loop-i-init
loop-i-init c =
    let a = c.args in
    (zero-le, omega arith, row_start a.bytes.now a.at (take 8 (drop a.from a.pieces.now)) (search rules) (omega arith))

pub overflow_add-bytes : goal.overflow_add-bytes
overflow_add-bytes c =
    let a = c.args in
    let at-loop = c.loop-i in
    let at-run-after = c.run_after-run in
    let piece : ℕ = get_or a.pieces.now (a.from + at-loop.i) 0 in
    let more = run_most at-loop.run piece at-run-after.result at-run-after.ensures in
    let most = sign_most piece c.sign_of.result c.sign_of.ensures in
    omega arith

pub overflow_sub-bytes : goal.overflow_sub-bytes
overflow_sub-bytes c =
    let a = c.args in
    let at-loop = c.loop-i in
    let at-run-after = c.run_after-run in
    let at-length-after = c.length_after-n in
    let piece : ℕ = get_or a.pieces.now (a.from + at-loop.i) 0 in
    count_least at-loop.invariant.2 piece at-run-after.result at-length-after.result at-run-after.ensures at-length-after.ensures

pub loop-i-preserved : goal.loop-i-preserved
loop-i-preserved c =
    let a = c.args in
    let at_pre = c.requires in
    let at-loop = c.loop-i in
    let at-run-after = c.run_after-run in
    let at-length-after = c.length_after-n in
    let pieces = a.pieces.now in
    let from = a.from in
    let i = at-loop.i in
    let sign = c.sign_of in
    let piece : ℕ = get_or pieces (from + i) 0 in
    let more = run_most at-loop.run piece at-run-after.result at-run-after.ensures in
    let most = count_most at-loop.n at-run-after.result at-length-after.result at-length-after.ensures in
    let long = row_long pieces from (search rules) at_pre.from_bound in
    let here = row_at pieces from i (omega arith) in
    let byte = sign_byte piece at-loop.run at-run-after.result sign.result (code_at pieces (from + i) at_pre.pieces_value) at-run-after.ensures
    sign.ensures in
    let turned =
    row_turn at-loop.invariant.2 (omega arith) (omega arith) piece at-run-after.result at-length-after.result (sign.result + at-run-after.result)
    here at-run-after.ensures at-length-after.ensures byte in
    (omega arith, omega arith, turned)

pub returns : goal.returns
returns c =
    let a = c.args in
    let at_pre = c.requires in
    let at-loop = c.loop-i in
    let long = row_long a.pieces.now a.from (search rules) at_pre.from_bound in
    row_end at-loop.invariant.2 (search rules) (omega arith) (omega arith)
