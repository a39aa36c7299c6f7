use mathlib.Core.Path.{◌≡◌, sym, ◌∙◌}
use native.Mathlib.Omega.{arith}
use Prim.Native.Nat.{◌-◌, ◌≤◌}
use borrow.Author.Tests.{eqb-true, eqb-false}
use lib.ListN.{get_or}
use Rattle.fen_text.specs.Full.{no_count, counter_of}
use Rattle.fen_reader.proofs.Counting.{digits_turn, digits_other, digit_most, digits_end, counter_fits, counter_empty, counter_long, digits_small, four_small}
use Rattle.fen_reader.proofs.token.counter.Goals as goal

pub returns-then-is_empty : goal.returns-then-is_empty
returns-then-is_empty c = λ h. omega (arith, h, counter_empty c.args.token.now (eqb-true _ _ (sym c.is_empty.ensures ∙ c.if-is_empty.true)))

pub returns-then-token-gt4 : goal.returns-then-token-gt4
returns-then-token-gt4 c = λ h. omega (arith, h, counter_long c.args.token.now c.if-token-gt4.true)

pub loop-b-init : goal.loop-b-init
loop-b-init c =
    let some = eqb-false _ _ (sym c.is_empty.ensures ∙ c.if-is_empty.false) in
    (omega arith, counter_fits c.args.token.now (omega (arith, some)) c.if-token-gt4.false)

pub returns-then-not-is_ascii_digit : goal.returns-then-not-is_ascii_digit
returns-then-not-is_ascii_digit c =
    let l = c.loop-b in
    let no = sym c.is_ascii_digit.ensures.value ∙ c.if-not-is_ascii_digit.true in
    let none : counter_of c.args.token.now ≡ no_count = l.invariant.1 ∙ digits_other c.args.token.now l.b-index l.value c.loop-b-test.true no in
    λ h. omega (arith, h)

pub loop-b-preserved : goal.loop-b-preserved
loop-b-preserved c =
    let s = c.args.token.now in
    let i = c.loop-b.b-index in
    let v = c.loop-b.value in
    let yes = sym c.is_ascii_digit.ensures.value ∙ c.if-not-is_ascii_digit.false in
    let digit : c.from.result ≡ get_or s i 0 - 48 = c.from.ensures in
    rw digit (
      digits_small v (get_or s i 0 - 48) i c.loop-b.invariant.0 (digit_most (get_or s i 0) yes),
      c.loop-b.invariant.1 ∙ digits_turn s i v c.loop-b-test.true yes,
    )

pub returns : goal.returns
returns c =
    let l = c.loop-b in
    let says : counter_of c.args.token.now ≡ l.value = l.invariant.1 ∙ digits_end c.args.token.now l.b-index l.value c.loop-b-test.false in
    let small : l.value ≤ 9999 = four_small l.value l.b-index l.invariant.0 (omega (arith, c.if-token-gt4.false, c.loop-b.auto.b-index-end)) in
    (omega arith, sym says)
