-- `put_start` of lib.rt meets its contract: r ≡ length (start_text b); now out.exit ≡ written (now out.entry) 0 (start_text b).
use native.Mathlib.Omega.{arith}
use mathlib.Core.Path.{refl}
use Rattle.board_builder.proofs.Ranges.{in_range_lem}
use Rattle.roll_text.proofs.Entries.{reach_five}
use Rattle.roll_writer.proofs.Whole.{start_long_lem, half_there, full_there, start_there}
use Rattle.roll_writer.proofs.put_start.Goals as goal

pub put_number-at-requires : goal.put_number-at-requires
put_number-at-requires c =
    let a = c.args in
    let pre = c.requires in
    let at-to-bytes = c.to_bytes in
    let x = at-to-bytes.new.out in
    let range = (in_range_lem a.b pre.b_value).counters in record {
      small = omega (arith, reach_five, range.half_most);
      fits = half_there a.b pre.b_value a.out.now x x x _ pre.b_in_bounds at-to-bytes.ensures.bytes refl;
    }

pub put_number-requires : goal.put_number-requires
put_number-requires c =
    let a = c.args in
    let pre = c.requires in
    let at-to-bytes = c.to_bytes in
    let at-put-number = c.put_number-at in
    let x = at-to-bytes.new.out in
    let y = at-put-number.new.out in
    let range = (in_range_lem a.b pre.b_value).counters in record {
      small = omega (arith, reach_five, range.full_most);
      fits = full_there a.b pre.b_value a.out.now x y y at-put-number.result pre.b_in_bounds at-to-bytes.ensures.bytes at-put-number.ensures.end
          at-put-number.ensures.bytes;
    }

pub returns : goal.returns
returns c =
    let a = c.args in
    let pre = c.requires in
    let at-to-bytes = c.to_bytes in
    let at-put-number = c.put_number-at in
    let at-put-number2 = c.put_number in
    let x = at-to-bytes.new.out in
    let y = at-put-number.new.out in
    let z = at-put-number2.new.out in record {
      end = omega (arith, at-put-number.ensures.end, at-put-number2.ensures.end, start_long_lem a.b pre.b_value);
      bytes = start_there a.b pre.b_value a.out.now x y z at-put-number.result pre.b_in_bounds at-to-bytes.ensures.bytes at-put-number.ensures.end
          at-put-number.ensures.bytes
          at-put-number2.ensures.bytes;
    }
