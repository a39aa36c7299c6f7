-- `put_text` of lib.rt meets its contract: r ≡ at + length (action_text kind colour number); now out.exit ≡ written (now out.entry) at (action_text
-- kind colour number).
use mathlib.Core.Path.{ap, ◌∙◌}
use native.Mathlib.Omega.{arith}
use Prim.Native.Nat.{ℕ, ◌+◌}
use mathlib.Core.List.{List}
use lib.ListN.{length}
use Rattle.answer.specs.Parts.{written}
use Rattle.roll_text.proofs.Entries.{reach_five}
use Rattle.roll_writer.proofs.Counting.{code_fits, number_fits, move_end, move_put, plain_is, plain_fits}
use Rattle.roll_writer.proofs.put_text.Goals as goal

pub put_number-behind-requires : goal.put_number-behind-requires
put_number-behind-requires c =
    let a = c.args in record {
      small = omega (arith, reach_five, c.code_of.ensures);
      fits = code_fits a.out.now a.f.kind a.f.colour
          a.f.number a.at c.code_of.result c.code_of.ensures c.requires c.if-f-eq1.true;
    }

pub put_number-requires : goal.put_number-requires
put_number-requires c =
    let at-args = c.args in
    let at_pre = c.requires in
    let at-if2 = c.if-f-eq1 in
    let at-code-of = c.code_of in
    let at-put-number = c.put_number-behind in
    let at-put-number = at-put-number in record {
      small = omega (arith, reach_five);
      fits = number_fits at-args.out.now at-args.f.kind at-args.f.colour at-args.f.number at-args.at at-code-of.result at-code-of.ensures (at_pre)
          at-if2.true at-put-number.new.out at-put-number.result at-put-number.ensures.end at-put-number.ensures.bytes;
    }

pub returns-then-f-eq1 : goal.returns-then-f-eq1
returns-then-f-eq1 c =
    let at-args = c.args in
    let at_pre = c.requires in
    let at-if2 = c.if-f-eq1 in
    let at-code-of = c.code_of in
    let at-put-number = c.put_number-behind in
    let at-put-number2 = c.put_number in
    let at-put-number = at-put-number in record {
      end = move_end at-args.out.now at-args.f.kind at-args.f.colour at-args.f.number at-args.at at-code-of.result at-code-of.ensures (at_pre)
          at-if2.true at-put-number.new.out at-put-number.result at-put-number.ensures.end at-put-number.ensures.bytes at-put-number2.result
          at-put-number2.ensures.end;
      bytes = move_put at-args.out.now at-args.f.kind at-args.f.colour at-args.f.number at-args.at at-code-of.result at-code-of.ensures (at_pre)
          at-if2.true at-put-number.new.out at-put-number.result at-put-number.ensures.end at-put-number.ensures.bytes at-put-number2.new.out
          at-put-number2.ensures.bytes;
    }

pub put_number-requires-2 : goal.put_number-requires-2
put_number-requires-2 c =
    let a = c.args in record {
      small = omega (arith, reach_five, c.code_of-2.ensures);
      fits = plain_fits a.out.now a.f.kind a.f.colour a.f.number a.at c.code_of-2.result c.code_of-2.ensures c.requires c.if-f-eq1.false;
    }

pub returns : goal.returns
returns c =
    let at-args = c.args in
    let at_pre = c.requires in
    let at-if2 = c.if-f-eq1 in
    let at-code-of2 = c.code_of-2 in
    let at-put-number3 = c.put_number-2 in
    let is = plain_is at-args.out.now at-args.f.kind at-args.f.colour at-args.f.number at-args.at at-code-of2.result at-code-of2.ensures
    (at_pre) at-if2.false in record {
      end = at-put-number3.ensures.end ∙ ap (λ (t : List ℕ). at-args.at + length t) is;
      bytes = at-put-number3.ensures.bytes ∙ ap (written at-args.out.now at-args.at) is;
    }
