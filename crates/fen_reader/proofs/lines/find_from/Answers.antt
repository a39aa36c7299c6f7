-- `find_from` of lines.rt meets its contract: r ≡ found_from b (now text.entry) from.
use borrow.Author.Rules.{rules}
use mathlib.Core.Path.{sym}
use Prim.Native.Nat.{◌<◌}
use native.Mathlib.Omega.{arith}
use lib.ListN.{length}
use Rattle.fen_text.proofs.Tokens.{where_end}
use Rattle.fen_reader.proofs.Blocks.{cut_off, looked_for, end_within}
use Rattle.fen_reader.proofs.lines.find_from.Goals as goal

pub returns-then-text-from : goal.returns-then-text-from
returns-then-text-from c = sym (where_end _ c.args.text.now c.args.from c.if-text-from.true)

pub overflow_add-result-2 : goal.overflow_add-result-2
overflow_add-result-2 c =
    let s = c.args.text.now in
    let from = c.args.from in
    let at = c.passed_over-at.result in
    let end = looked_for c.args.b s _ _ from at c.find.result (cut_off s from _ (omega arith)) (cut_off _ at _ (omega arith)) c.find.ensures
    c.passed_over-at.ensures.none in
    let long : length s < 18446744073709551616 = search rules in
    omega (arith, end, end_within c.args.b s from (omega (arith, c.if-text-from.false)))
