-- `entry_number` of lib.rt meets its contract: r ≡ entry_number (now text.entry).
use Rattle.differences.proofs.Bytes.{number_plain, number_one, number_two, number_three}
use Rattle.differences.proofs.entry_number.Goals as goal

pub returns-then-code-ne-MOVE_CODE : goal.returns-then-code-ne-MOVE_CODE
returns-then-code-ne-MOVE_CODE c = number_plain c.args.text.now _ c.byte_at-code.ensures c.if-code-ne-MOVE_CODE.true

pub returns-then-low-lt128 : goal.returns-then-low-lt128
returns-then-low-lt128 c =
    let a = c.args in
    let at-byte-at = c.byte_at-code in
    let at-if1 = c.if-code-ne-MOVE_CODE in
    let at-byte-at2 = c.byte_at-low in
    let at-if2 = c.if-low-lt128 in
    number_one a.text.now _ at-byte-at.ensures at-if1.false _ at-byte-at2.ensures _ c.move_number.ensures at-if2.true

pub returns-then-middle-lt128 : goal.returns-then-middle-lt128
returns-then-middle-lt128 c =
    let a = c.args in
    let at-byte-at = c.byte_at-code in
    let at-if1 = c.if-code-ne-MOVE_CODE in
    let at-byte-at2 = c.byte_at-low in
    let at-if2 = c.if-low-lt128 in
    let at-byte-at3 = c.byte_at-middle in
    let at-if3 = c.if-middle-lt128 in
    let at-two-groups = c.two_groups in
    number_two a.text.now _ at-byte-at.ensures at-if1.false _ at-byte-at2.ensures at-if2.false _ at-byte-at3.ensures _ _
    at-two-groups.ensures c.move_number-then-middle-lt128.ensures at-if3.true

pub returns : goal.returns
returns c =
    let a = c.args in
    let at-byte-at = c.byte_at-code in
    let at-if1 = c.if-code-ne-MOVE_CODE in
    let at-byte-at2 = c.byte_at-low in
    let at-if2 = c.if-low-lt128 in
    let at-byte-at3 = c.byte_at-middle in
    let at-if3 = c.if-middle-lt128 in
    let at-byte-at4 = c.byte_at in
    let at-three-groups = c.three_groups in
    number_three a.text.now _ at-byte-at.ensures at-if1.false _ at-byte-at2.ensures at-if2.false _ at-byte-at3.ensures _ _ _
    at-byte-at4.ensures at-three-groups.ensures c.move_number-2.ensures at-if3.false
