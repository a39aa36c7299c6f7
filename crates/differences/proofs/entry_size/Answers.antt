-- `entry_size` of lib.rt meets its contract: (r ≡ entry_size (now text.entry)) × (r ≤ 4).
use native.Mathlib.Omega.{arith}
use Rattle.differences.proofs.Bytes.{size_plain, size_one, size_two, size_three}
use Rattle.differences.proofs.entry_size.Goals as goal

pub returns-then-byte_at-ne-MOVE_CODE : goal.returns-then-byte_at-ne-MOVE_CODE
returns-then-byte_at-ne-MOVE_CODE c = (size_plain c.args.text.now _ c.byte_at.ensures c.if-byte_at-ne-MOVE_CODE.true, omega arith)

pub returns-then-byte_at-lt128 : goal.returns-then-byte_at-lt128
returns-then-byte_at-lt128 c =
    let a = c.args in
    let at-byte-at = c.byte_at in
    let at-if1 = c.if-byte_at-ne-MOVE_CODE in
    let at-byte-at2 = c.byte_at-2 in
    (size_one a.text.now _ at-byte-at.ensures at-if1.false _ at-byte-at2.ensures c.if-byte_at-lt128.true, omega arith)

pub returns-then-byte_at-lt128-2 : goal.returns-then-byte_at-lt128-2
returns-then-byte_at-lt128-2 c =
    let a = c.args in
    let at-byte-at = c.byte_at in
    let at-if1 = c.if-byte_at-ne-MOVE_CODE in
    let at-byte-at2 = c.byte_at-2 in
    let at-if2 = c.if-byte_at-lt128 in
    let at-byte-at3 = c.byte_at-3 in (
      size_two a.text.now _ at-byte-at.ensures at-if1.false _ at-byte-at2.ensures at-if2.false _ at-byte-at3.ensures c.if-byte_at-lt128-2.true,
      omega
          arith,
    )

pub returns : goal.returns
returns c =
    let a = c.args in
    let at-byte-at = c.byte_at in
    let at-if1 = c.if-byte_at-ne-MOVE_CODE in
    let at-byte-at2 = c.byte_at-2 in
    let at-if2 = c.if-byte_at-lt128 in
    let at-byte-at3 = c.byte_at-3 in (
      size_three a.text.now _ at-byte-at.ensures at-if1.false _ at-byte-at2.ensures at-if2.false _ at-byte-at3.ensures c.if-byte_at-lt128-2.false,
      omega
          arith,
    )
