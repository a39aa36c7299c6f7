-- `write_refusal` of lib.rt meets its contract: r ≡ write_answer 0 (refusal_line number offset) (length (now out.entry)); now out.exit ≡ write_bytes 0
-- (refusal_line number offset) (now out.entry).
use borrow.Author.Rules.{rules}
use native.Mathlib.Omega.{arith}
use Prim.Native.Nat.{◌<◌}
use mathlib.Core.List.{[]}
use Rattle.answer.proofs.Pushes.{push_whole, whole_count, whole_within}
use Rattle.key_line.proofs.Refusals.{space_within, newline_within, whole_line}
use Rattle.key_line.proofs.write_refusal.Goals as goal

pub bounds-bytes-a : goal.bounds-bytes-a
bounds-bytes-a c =
    let at-args = c.args in
    let n = at-args.number in
    let o = at-args.offset in
    let small : n < 18446744073709551616 = search rules in
    let near : o < 18446744073709551616 = search rules in
    let first = c.push_number-a.ensures in
    let a = space_within n o c.push_number-a.result 0 c.push_number-a.new.bytes [] small first in
    omega arith

pub push_number-b-requires : goal.push_number-b-requires
push_number-b-requires c =
    let at-args = c.args in
    let n = at-args.number in
    let o = at-args.offset in
    let small : n < 18446744073709551616 = search rules in
    let near : o < 18446744073709551616 = search rules in
    let first = c.push_number-a.ensures in
    let a = space_within n o c.push_number-a.result 0 c.push_number-a.new.bytes [] small first in
    omega arith

pub bounds-bytes-b : goal.bounds-bytes-b
bounds-bytes-b c =
    let at-args = c.args in
    let at-push-number = c.push_number-a in
    let at-push-number2 = c.push_number-b in
    let n = at-args.number in
    let o = at-args.offset in
    let small : n < 18446744073709551616 = search rules in
    let near : o < 18446744073709551616 = search rules in
    let first = at-push-number.ensures in
    let a = space_within n o at-push-number.result 0 at-push-number.new.bytes [] small first in
    let second = at-push-number2.ensures in
    let b = newline_within n o at-push-number.result at-push-number2.result at-push-number.new.bytes at-push-number2.new.bytes near a second in
    omega arith

pub slice_bounds-bytes-end : goal.slice_bounds-bytes-end
slice_bounds-bytes-end c =
    let at-args = c.args in
    let at-push-number = c.push_number-a in
    let at-push-number2 = c.push_number-b in
    let n = at-args.number in
    let o = at-args.offset in
    let small : n < 18446744073709551616 = search rules in
    let near : o < 18446744073709551616 = search rules in
    let first = at-push-number.ensures in
    let a = space_within n o at-push-number.result 0 at-push-number.new.bytes [] small first in
    let second = at-push-number2.ensures in
    let b = newline_within n o at-push-number.result at-push-number2.result at-push-number.new.bytes at-push-number2.new.bytes near a second in
    let all = whole_line n o at-push-number.result at-push-number2.result at-push-number.new.bytes at-push-number2.new.bytes a b first second in
    whole_within all

pub slice_bounds-write_text-end : goal.slice_bounds-write_text-end
slice_bounds-write_text-end c =
    let at-args = c.args in
    let at-push-number = c.push_number-a in
    let at-push-number2 = c.push_number-b in
    let n = at-args.number in
    let o = at-args.offset in
    let small : n < 18446744073709551616 = search rules in
    let near : o < 18446744073709551616 = search rules in
    let first = at-push-number.ensures in
    let a = space_within n o at-push-number.result 0 at-push-number.new.bytes [] small first in
    let second = at-push-number2.ensures in
    let b = newline_within n o at-push-number.result at-push-number2.result at-push-number.new.bytes at-push-number2.new.bytes near a second in
    let all = whole_line n o at-push-number.result at-push-number2.result at-push-number.new.bytes at-push-number2.new.bytes a b first second in
    whole_count all

pub returns : goal.returns
returns c =
    let at-args = c.args in
    let at-push-number = c.push_number-a in
    let at-push-number2 = c.push_number-b in
    let at-write-text = c.write_text in
    let n = at-args.number in
    let o = at-args.offset in
    let small : n < 18446744073709551616 = search rules in
    let near : o < 18446744073709551616 = search rules in
    let first = at-push-number.ensures in
    let a = space_within n o at-push-number.result 0 at-push-number.new.bytes [] small first in
    let second = at-push-number2.ensures in
    let b = newline_within n o at-push-number.result at-push-number2.result at-push-number.new.bytes at-push-number2.new.bytes near a second in
    let all = whole_line n o at-push-number.result at-push-number2.result at-push-number.new.bytes at-push-number2.new.bytes a b first second in
    record { answer = rw (← (push_whole all.pushed).1) (at-write-text.ensures.answer); bytes = rw (← (push_whole all.pushed).1) (at-write-text.ensures.bytes) }
