-- `put_line` of lib.rt meets its contract: r ≡ lined_at at (now line.entry); now out.exit ≡ written (now out.entry) at (key_line (now (line
-- .entry))); length (key_line (now line.entry)) ≤ longest_line.
use borrow.Author.Rules.{rules}
use native.Mathlib.Omega.{arith}
use Prim.Native.Nat.{◌<◌}
use lib.ListN.{length}
use Rattle.key_line.proofs.Lines.{refusal_short, refused_value, refused_line, refused_bytes, refused_short}
use Rattle.key_line.proofs.Lines.{key_within, newline_place, accepted_line, accepted_bytes, key_short}
use Rattle.key_line.proofs.put_line.Goals as goal

pub overflow_add-result : goal.overflow_add-result
overflow_add-result c =
    let at-args = c.args in
    let at-read-fen-6 = c.read_fen-fen in
    let small : at-read-fen-6.result.number < 18446744073709551616 = search rules in
    let near : at-read-fen-6.result.offset < 18446744073709551616 = search rules in
    let long : length at-args.out.now < 18446744073709551616 = search rules in
    let a = at-args in
    let at_pre = c.requires in
    let at-read-fen = at-read-fen-6 in
    let at-if1 = c.if-fen-ne-ACCEPTED in
    let at-write-refusal = c.write_refusal-refusal in
    omega (
      arith,
      refused_value a.line.now a.out.now at-write-refusal.new.out at-read-fen.result a.at _ at-write-refusal.result
          at-read-fen.ensures at-if1.true small near (at_pre) at-write-refusal.ensures.answer at-write-refusal.ensures.bytes,
      refusal_short
          at-read-fen.result.number at-read-fen.result.offset small near,
      at_pre,
    )

pub returns-then-fen-ne-ACCEPTED : goal.returns-then-fen-ne-ACCEPTED
returns-then-fen-ne-ACCEPTED c =
    let at-args = c.args in
    let at-read-fen-6 = c.read_fen-fen in
    let small : at-read-fen-6.result.number < 18446744073709551616 = search rules in
    let near : at-read-fen-6.result.offset < 18446744073709551616 = search rules in
    let long : length at-args.out.now < 18446744073709551616 = search rules in
    let a = at-args in
    let at_pre = c.requires in
    let at-read-fen = at-read-fen-6 in
    let at-if1 = c.if-fen-ne-ACCEPTED in
    let at-write-refusal = c.write_refusal-refusal in
    let left = at-write-refusal.new.out in record {
      answer = refused_line a.line.now a.out.now left at-read-fen.result a.at _ at-write-refusal.result
          at-read-fen.ensures at-if1.true small near (at_pre) at-write-refusal.ensures.answer at-write-refusal.ensures.bytes;
      bytes = refused_bytes a.line.now a.out.now left at-read-fen.result a.at _ at-write-refusal.result
          at-read-fen.ensures at-if1.true small near (at_pre) at-write-refusal.ensures.answer at-write-refusal.ensures.bytes;
      short = refused_short a.line.now
          a.out.now left at-read-fen.result a.at _ at-write-refusal.result at-read-fen.ensures at-if1.true small
          near (at_pre) at-write-refusal.ensures.answer at-write-refusal.ensures.bytes;
    }

pub overflow_add-end : goal.overflow_add-end
overflow_add-end c =
    let at-args = c.args in
    let long : length at-args.out.now
    < 18446744073709551616 = search rules in
    let a = at-args in
    let at_pre = c.requires in
    let at-read-fen = c.read_fen-fen in
    let at-if1 = c.if-fen-ne-ACCEPTED in
    let at-write-fen = c.write_fen-key in
    omega (
      arith,
      key_within a.line.now a.out.now at-write-fen.new.out at-read-fen.result a.at _ at-write-fen.result
          at-read-fen.ensures at-if1.false (at_pre) at-write-fen.ensures.answer at-write-fen.ensures.bytes,
      at_pre,
    )

pub bounds-out-end : goal.bounds-out-end
bounds-out-end c =
    let a = c.args in
    let at_pre = c.requires in
    let at-read-fen = c.read_fen-fen in
    let at-if1 = c.if-fen-ne-ACCEPTED in
    let at-write-fen = c.write_fen-key in
    newline_place a.line.now a.out.now at-write-fen.new.out at-read-fen.result a.at _ at-write-fen.result at-read-fen.ensures
    at-if1.false (at_pre) at-write-fen.ensures.answer at-write-fen.ensures.bytes

pub overflow_add-result-2 : goal.overflow_add-result-2
overflow_add-result-2 c =
    let at-args = c.args in
    let long : length at-args.out.now
    < 18446744073709551616 = search rules in
    let a = at-args in
    let at_pre = c.requires in
    let at-read-fen = c.read_fen-fen in
    let at-if1 = c.if-fen-ne-ACCEPTED in
    let at-write-fen = c.write_fen-key in
    omega (
      arith,
      key_within a.line.now a.out.now at-write-fen.new.out at-read-fen.result a.at _ at-write-fen.result
          at-read-fen.ensures at-if1.false (at_pre) at-write-fen.ensures.answer at-write-fen.ensures.bytes,
      at_pre,
    )

pub returns : goal.returns
returns c =
    let a = c.args in
    let at_pre = c.requires in
    let at-read-fen = c.read_fen-fen in
    let at-if1 = c.if-fen-ne-ACCEPTED in
    let at-write-fen = c.write_fen-key in record {
      answer = accepted_line a.line.now a.out.now at-write-fen.new.out at-read-fen.result a.at _ at-write-fen.result at-read-fen.ensures
          at-if1.false (at_pre) at-write-fen.ensures.answer at-write-fen.ensures.bytes;
      bytes = accepted_bytes a.line.now a.out.now at-write-fen.new.out at-read-fen.result a.at _ at-write-fen.result at-read-fen.ensures
          at-if1.false (at_pre) at-write-fen.ensures.answer at-write-fen.ensures.bytes;
      short = key_short a.line.now a.out.now at-write-fen.new.out
          at-read-fen.result a.at _ at-write-fen.result at-read-fen.ensures at-if1.false (at_pre) at-write-fen.ensures.answer
          at-write-fen.ensures.bytes;
    }
