-- `push_number` of lib.rt meets its contract: Put 44 (now bytes.entry) n (decimal number) (now bytes.exit) r.
use borrow.Author.Rules.{rules}
use native.Mathlib.Omega.{arith}
use Prim.Native.Nat.{◌<◌}
use Rattle.key_line.proofs.Refusals.{few_digits, number_put}
use Rattle.key_line.proofs.push_number.Goals as goal

pub overflow_add-result : goal.overflow_add-result
overflow_add-result c =
    let a = c.args in
    let small : a.number < 18446744073709551616 = search rules in
    let few = few_digits a.number small in
    let put =
    number_put a.bytes.now _ a.n a.number _ c.to_string-written.result (search rules) (omega (arith, c.requires)) c.to_string-written.ensures.answer
    c.to_string-written.ensures.bytes in
    omega (arith, put.pushed.count, c.requires)

pub returns : goal.returns
returns c =
    let a = c.args in
    let small : a.number < 18446744073709551616 = search rules in
    let few = few_digits a.number small in
    number_put a.bytes.now _ a.n a.number _ c.to_string-written.result (search rules) (omega (arith, c.requires)) c.to_string-written.ensures.answer
    c.to_string-written.ensures.bytes
