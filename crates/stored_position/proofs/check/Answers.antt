-- `check` of lib.rt meets its contract: r ≡ position_check (position_given b in_check (now list.entry)).
use mathlib.Core.Path.{◌≡◌, sym, ◌∙◌}
use mathlib.Core.Bool.{true, false, ◌&&◌}
use native.Mathlib.Omega.{arith}
use lib.ListN.{length}
use borrow.Author.Rules.{length_unmapped}
use Rattle.board_builder.specs.BoardBuilder.{squares, numbers, counters_in_range, numbers_in_range}
use Rattle.stored_position.specs.Bytes.{position_given}
use Rattle.stored_position.proofs.Checks.{numbers_range, bad_board, bad_check, bad_list_fact, no_fault}
use Rattle.stored_position.proofs.check.Goals as goal

pub returns-then-not-in_range : goal.returns-then-not-in_range
returns-then-not-in_range c =
    let at-args = c.args in
    let at-in-range = c.in_range in
    let b = at-args.b in
    let long : length b.pieces ≡ squares = search length_unmapped in
    let e : counters_in_range b.half_moves b.full_moves && numbers_in_range (numbers b) ≡ false = numbers_range b long ∙ sym at-in-range.ensures ∙
    c.if-not-in_range.true in
    sym (bad_board (position_given b at-args.in_check at-args.list.now) e)

pub returns-then-in_check-gt1 : goal.returns-then-in_check-gt1
returns-then-in_check-gt1 c =
    let at-args = c.args in
    let at-in-range = c.in_range in
    let at-if1 = c.if-not-in_range in
    let b = at-args.b in
    let long : length b.pieces ≡ squares = search length_unmapped in
    let e : counters_in_range b.half_moves b.full_moves && numbers_in_range (numbers b) ≡ true = numbers_range b long ∙ sym at-in-range.ensures ∙
    at-if1.false in
    sym (bad_check (position_given b at-args.in_check at-args.list.now) e (omega (arith, c.if-in_check-gt1.true)))

pub returns-then-not-in_range-2 : goal.returns-then-not-in_range-2
returns-then-not-in_range-2 c =
    let at-args = c.args in
    let at-in-range = c.in_range in
    let at-if1 = c.if-not-in_range in
    let at-if2 = c.if-in_check-gt1 in
    let at-in-range2 = c.in_range-2 in
    let b = at-args.b in
    let long : length b.pieces ≡ squares = search length_unmapped in
    let e : counters_in_range b.half_moves b.full_moves && numbers_in_range (numbers b) ≡ true = numbers_range b long ∙ sym at-in-range.ensures ∙
    at-if1.false in
    sym (bad_list_fact (position_given b at-args.in_check at-args.list.now) e (omega (arith, at-if2.false))
    (sym at-in-range2.ensures ∙ c.if-not-in_range-2.true))

pub returns : goal.returns
returns c =
    let at-args = c.args in
    let at-in-range = c.in_range in
    let at-if1 = c.if-not-in_range in
    let at-if2 = c.if-in_check-gt1 in
    let at-in-range2 = c.in_range-2 in
    let b = at-args.b in
    let long : length b.pieces ≡ squares = search length_unmapped in
    let e : counters_in_range b.half_moves b.full_moves && numbers_in_range (numbers b) ≡ true = numbers_range b long ∙ sym at-in-range.ensures ∙
    at-if1.false in
    sym (no_fault (position_given b at-args.in_check at-args.list.now) e (omega (arith, at-if2.false))
    (sym at-in-range2.ensures ∙ c.if-not-in_range-2.false))
